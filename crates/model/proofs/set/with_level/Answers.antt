-- `set::with_level` meets its contract: a level of the machine has one of the first four bits. Assumes nothing.
use mathlib.Core.Path.{sym, ◌∙◌}
use Rattle.model.specs.Updates.{with_level}
use Rattle.model.proofs.Four.{level-low}
use Rattle.model.proofs.set.with_level.Goals as goal

pub with_bit-requires : goal.with_bit-requires
with_bit-requires c = level-low _ _ (sym c.is_level.ensures ∙ c.if-is_level.true)

pub returns-then-is_level : goal.returns-then-is_level
unfolding with_level
returns-then-is_level c = rw (sym c.is_level.ensures ∙ c.if-is_level.true, c.with_bit.ensures)

pub returns : goal.returns
unfolding with_level
returns c = rw (sym c.is_level.ensures ∙ c.if-is_level.false)
