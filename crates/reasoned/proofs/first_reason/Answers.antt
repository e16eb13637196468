-- `reasoned::first_reason` meets its contract: by what the line says, and whether that is admissible. Assumes nothing.
use Rattle.reasoned.proofs.first_reason.Goals as goal

pub returns-then-admissible : goal.returns-then-admissible
returns-then-admissible c =
    rw (← c.parse_first.ensures, c.in-Ok.is, ← c.admissible.ensures, c.if-admissible.true)

pub returns-else-admissible : goal.returns-else-admissible
returns-else-admissible c =
    rw (← c.parse_first.ensures, c.in-Ok.is, ← c.admissible.ensures, c.if-admissible.false)

pub returns-in-Err : goal.returns-in-Err
returns-in-Err c = rw (← c.parse_first.ensures, c.in-Err.is)
