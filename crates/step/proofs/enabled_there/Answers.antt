-- `enabled_there` meets its contract: the empty record has no level enabled. Assumes nothing.
use mathlib.Core.Path.{◌≡◌, refl, sym}
use mathlib.Core.Bool.{Bool, true, false, cond, ◌&&◌}
use Prim.Native.Nat.{ℕ}
use Rattle.model.proofs.LevelSets.{none_in}
use Rattle.model.specs.State.{no_vp, enabled_at}
use Rattle.model.specs.declared.machine.Shape.{Shape}
use Rattle.model.specs.declared.machine.VirtualProcessor.{VirtualProcessor}
use Rattle.processor.specs.Record.{vp_of}
use Rattle.step.proofs.enabled_there.Goals as goal

known : (b : Bool) (z : Shape) (p : VirtualProcessor) (l : ℕ) → (b && enabled_at z p l) ≡ enabled_at z (cond b p no_vp) l
unfolding enabled_at
known true z p l = refl
known false z p l = sym (none_in z l)

pub returns : goal.returns
returns c = let a = c.args in rw c.enabled_at-enabled.ensures (known a.there a.shape (vp_of a.vp.now) a.level.0)
