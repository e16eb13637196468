-- `level::set_config` meets its contract: a store within the array, or none. Assumes nothing.
use borrow.Author.Rules.{rules}
use Rattle.partition.proofs.PartitionWords.{config-stored, config-past}
use Rattle.partition.proofs.level.set_config.Goals as goal

pub returns-then-number-lt4 : goal.returns-then-number-lt4
returns-then-number-lt4 c masks = config-stored _ _ _ masks (search rules) c.if-number-lt4.true

pub returns-else-number-lt4 : goal.returns-else-number-lt4
returns-else-number-lt4 c masks = config-past _ _ _ masks c.if-number-lt4.false
