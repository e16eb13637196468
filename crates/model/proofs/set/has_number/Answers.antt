-- `set::has_number` meets its contract: no bit past 63 is set (`bit_past`). Assumes nothing.
use mathlib.Core.Path.{sym}
use Rattle.model.proofs.Sets.{bit_past}
use Rattle.model.proofs.set.has_number.Goals as goal

pub returns-then-number-ge64 : goal.returns-then-number-ge64
returns-then-number-ge64 c = sym (bit_past _ 64 _ c.ranges.word.fits c.if-number-ge64.true)

pub returns : goal.returns
returns c = c.has_bit.ensures
