-- `mask_at` meets its contract: page and level are within the array, or there is no mask. Assumes nothing.
use mathlib.Core.Bool.{true, false}
use Rattle.partition.proofs.MaskPlaces.{mask-page-past, mask-level-past, mask-in}
use Rattle.partition.proofs.mask.mask_at.Goals as goal

pub returns-then-index-ge64 : goal.returns-then-index-ge64
returns-then-index-ge64 c = mask-page-past _ _ _ _ _ c.if-index-ge64.true

pub returns-then-number-ge4 : goal.returns-then-number-ge4
returns-then-number-ge4 c = mask-level-past _ _ _ _ _ c.if-number-ge4.true

pub returns-then-number-top : goal.returns-then-number-top
returns-then-number-top c = mask-in _ _ _ _ _ c.if-index-ge64.false c.if-number-ge4.false true c.if-number-top.true

pub returns-else-number-top : goal.returns-else-number-top
returns-else-number-top c = mask-in _ _ _ _ _ c.if-index-ge64.false c.if-number-ge4.false false c.if-number-top.false
