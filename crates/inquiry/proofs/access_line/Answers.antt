-- `inquiry::access_line` meets its contract: what the line asks for, if its numbers are in range. Assumes nothing.
use Rattle.inquiry.proofs.access_line.Goals as goal

pub returns-in_err-asked : goal.returns-in_err-asked
returns-in_err-asked c =
    rw (← c.parse.ensures, ← c.asked_by.ensures, c.in_err-asked.was, c.from_residual.ensures)

pub returns-then-asked-setup : goal.returns-then-asked-setup
returns-then-asked-setup c =
    rw (← c.parse.ensures, ← c.asked_by.ensures, c.in_ok-asked.was, c.if-asked-setup.true)

pub returns : goal.returns
returns c =
    rw (← c.parse.ensures, ← c.asked_by.ensures, c.in_ok-asked.was, c.if-asked-setup.false)
