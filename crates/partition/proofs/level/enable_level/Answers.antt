-- `level::enable_level` meets its contract: both sets are replaced. Assumes nothing.
use borrow.Author.Rules.{rules}
use Rattle.partition.proofs.PartitionWords.{level-enabled}
use Rattle.partition.proofs.level.enable_level.Goals as goal

pub returns : goal.returns
returns c masks = level-enabled _ _ _ _ _ _ masks (search rules) c.with_level-enabled.ensures c.with_level-with_mbec.ensures
