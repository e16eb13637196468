-- `set::is_level` meets its contract: the two tests of the definition. Assumes nothing.
use Rattle.model.specs.State.{is_level, top}
use mathlib.Core.Path.{refl}
use Rattle.model.proofs.set.is_level.Goals as goal

pub returns : goal.returns
unfolding is_level top
returns c = refl
