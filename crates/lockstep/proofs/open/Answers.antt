-- `lockstep::open` meets its contract: by the number of words, what the line says, and whether that is admissible. Assumes nothing.
use mathlib.Core.Path.{refl, sym, ◌∙◌}
use borrow.Author.Tests.{le-ltb, lt-ltb}
use Rattle.lockstep.specs.Lockstep.{opened}
use borrow.Author.Rules.{rules}
use Rattle.lockstep.proofs.open.Goals as goal

pub returns-then-machine-lt-MACHINE_WORDS : goal.returns-then-machine-lt-MACHINE_WORDS
unfolding opened
returns-then-machine-lt-MACHINE_WORDS c = rw (lt-ltb _ _ c.if-machine-lt-MACHINE_WORDS.true) record { reason = refl; words = refl; state = refl }

pub returns-then-not-admissible : goal.returns-then-not-admissible
unfolding opened
returns-then-not-admissible c =
    rw (
      le-ltb _ _ c.if-machine-lt-MACHINE_WORDS.false,
      sym c.parse_first-start.ensures ∙ c.in-Ok.is,
      sym c.admissible.ensures ∙ c.if-not-admissible.true,
    )
    record { reason = refl; words = refl; state = refl }

pub open_first-requires : goal.open_first-requires
open_first-requires c = (search rules, sym c.admissible.ensures ∙ c.if-not-admissible.false)

pub returns-in-Err : goal.returns-in-Err
unfolding opened
returns-in-Err c =
    rw (le-ltb _ _ c.if-machine-lt-MACHINE_WORDS.false, sym c.parse_first-start.ensures ∙ c.in-Err.is)
    record { reason = c.refusal_reason.ensures; words = refl; state = refl }

pub returns-else-not-admissible : goal.returns-else-not-admissible
unfolding opened
returns-else-not-admissible c =
    let made = c.open_first.ensures in
    rw (
      le-ltb _ _ c.if-machine-lt-MACHINE_WORDS.false,
      sym c.parse_first-start.ensures ∙ c.in-Ok.is,
      sym c.admissible.ensures ∙ c.if-not-admissible.false,
    )
    record { reason = refl; words = made.words; state = made.state }
