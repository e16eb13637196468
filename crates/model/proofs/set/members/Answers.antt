-- `set::members` meets its contract: the low bits, as many as there are levels. Assumes nothing.
use Rattle.model.proofs.LevelSets.{low_bits}
use Rattle.model.proofs.set.members.Goals as goal

pub returns : goal.returns
returns c = rw (c.take.ensures, c.level_count.ensures) (low_bits _ _)
