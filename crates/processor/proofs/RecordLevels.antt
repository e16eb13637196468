-- Sets of levels above 0, level by level: the levels that hold MBEC or a TLB lock for a lower one (01, the events secure, flush
-- and vstat). Assumes nothing.
use mathlib.Core.Path.{◌≡◌}
use Prim.Native.Nat.{ℕ}
use native.Mathlib.Omega.{arith}
use borrow.Author.Tests.{le-ltb}
use Rattle.word.specs.Field.{bit}
use Rattle.model.specs.declared.machine.Shape.{Shape}
use Rattle.model.specs.declared.machine.VirtualProcessor.{VirtualProcessor}
use Rattle.model.specs.State.{secure_of}

-- Level 0 holds nothing for a lower level.
pub none-held : (z : Shape) (p : VirtualProcessor) (l i : ℕ) → bit (secure_of z p 0 l) i ≡ bit 0 i
unfolding secure_of
none-held z p l i = rw (le-ltb l 0 (omega arith))
