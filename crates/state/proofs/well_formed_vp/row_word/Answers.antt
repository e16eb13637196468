-- `well_formed_vp::row_word` meets its contract: a level below 4 has its words within the array. Assumes nothing.
use mathlib.Core.Path.{sym, ◌∙◌}
use Rattle.state.proofs.well_formed_vp.row_word.Goals as goal

pub returns-then-is_level : goal.returns-then-is_level
returns-then-is_level c = rw (sym c.is_level.ensures ∙ c.if-is_level.true)

pub returns : goal.returns
returns c = rw (sym c.is_level.ensures ∙ c.if-is_level.false)
