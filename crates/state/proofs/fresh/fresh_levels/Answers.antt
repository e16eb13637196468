-- `fresh::fresh_levels` meets its contract: the words are known, and so is what they stand for. Assumes nothing.
use mathlib.Core.Path.{refl}
use Rattle.partition.specs.PartitionView.{partition_of}
use Rattle.state.proofs.fresh.fresh_levels.Goals as goal

pub returns : goal.returns
unfolding partition_of
returns c = λ masks. refl
