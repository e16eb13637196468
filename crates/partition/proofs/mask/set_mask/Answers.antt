-- `set_mask` meets its contract: a store within the array, or none where the index lies past it. Assumes nothing.
use native.Mathlib.Omega.{arith}
use Rattle.partition.proofs.MaskPlaces.{stored-in, stored_past}
use Rattle.partition.proofs.mask.set_mask.Goals as goal

pub returns-then-index-ge64 : goal.returns-then-index-ge64
returns-then-index-ge64 c = stored_past 256 _ _ _ (omega arith)

pub returns-then-number-ge256 : goal.returns-then-number-ge256
returns-then-number-ge256 c = stored_past 256 _ _ _ (omega arith)

pub returns-then-i-lt256 : goal.returns-then-i-lt256
returns-then-i-lt256 c = stored-in 256 _ _ _ (omega arith)

pub returns-else-i-lt256 : goal.returns-else-i-lt256
returns-else-i-lt256 c = stored_past 256 _ _ _ (omega arith)
