-- `level::config_at` meets its contract: the word of a level above 0 that there is, or 0. Assumes nothing.
use mathlib.Core.Bool.{true, false}
use Rattle.partition.proofs.PartitionWords.{config-in, config-none}
use Rattle.partition.proofs.level.config_at.Goals as goal

pub returns-then-number-ge4 : goal.returns-then-number-ge4
returns-then-number-ge4 c = config-none _ c.args.levels.now _ c.if-number-ge4.true

pub returns-then-number-top : goal.returns-then-number-top
returns-then-number-top c = config-in _ c.args.levels.now _ c.if-number-ge4.false true c.if-number-top.true

pub returns-else-number-top : goal.returns-else-number-top
returns-else-number-top c = config-in _ c.args.levels.now _ c.if-number-ge4.false false c.if-number-top.false
