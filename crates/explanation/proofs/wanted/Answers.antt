-- `wanted` meets its contract: a mask has four bits, so the power fits. Assumes nothing.
use mathlib.Core.Bool.{Bool, ◌&&◌}
use Prim.Native.Nat.{◌<◌}
use native.Mathlib.Nat.{mod-eq_of_lt, one-mul}
use native.Mathlib.Omega.{arith}
use lib.Pow.{pow-lt}
use Rattle.model.proofs.Bools.{cond-holds}
use Rattle.model.specs.declared.quantity.Access.{Access}
use Rattle.model.specs.declared.quantity.Access.TheVariants.{Read, Write, Fetch}
use Rattle.model.specs.declared.quantity.Mode.{Mode}
use Rattle.model.specs.Masks.{kmx_bit, umx_bit}
use Rattle.model.specs.Memory.{is_user, needed}
use Rattle.explanation.proofs.wanted.Goals as goal

needed-low : (mbec : Bool) (mode : Mode) (access : Access) → needed mbec mode access < 64
unfolding needed
needed-low mbec mode Read = omega arith
needed-low mbec mode Write = omega arith
needed-low mbec mode Fetch = cond-holds (λ k. k < 64) (mbec && is_user mode) umx_bit kmx_bit (omega arith) (omega arith)

pub overflow_shl-result : goal.overflow_shl-result
overflow_shl-result c = let a = c.args in rw c.needed.ensures (needed-low a.mbec a.mode a.access)

pub returns : goal.returns
returns c = let a = c.args in rw (c.needed.ensures, one-mul) (mod-eq_of_lt (pow-lt (needed-low a.mbec a.mode a.access)))
