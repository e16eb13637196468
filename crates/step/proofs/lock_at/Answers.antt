-- `lock_at` meets its contract: the empty record holds no lock. Assumes nothing.
use mathlib.Core.Path.{◌≡◌, refl}
use mathlib.Core.Bool.{Bool, true, false, cond, ◌&&◌}
use Prim.Native.Nat.{ℕ, zero, suc}
use lib.Dec.{ltb}
use lib.ListN.{get_or, replicate}
use Rattle.word.specs.Field.{bit}
use Rattle.model.specs.Bounded.{any}
use Rattle.model.proofs.Bools.{cond_same}
use Rattle.model.specs.Arrays.{number_at}
use Rattle.model.specs.State.{no_vp, no_context, past_context, is_level, context, secure_of, lock_bit}
use Rattle.model.specs.declared.machine.Shape.{Shape}
use Rattle.model.specs.declared.machine.VirtualProcessor.{VirtualProcessor}
use Rattle.processor.specs.Record.{vp_of}
use Rattle.step.proofs.lock_at.Goals as goal

abbrev holds : Shape → VirtualProcessor → ℕ → Bool
holds z p l = any 4 (λ t. bit (secure_of z p t l) lock_bit)

zeros : (l : ℕ) → ◌≡◌ {A = ℕ} (get_or (replicate 4 0) l 0) 0
zeros zero = refl
zeros (suc zero) = refl
zeros (suc (suc zero)) = refl
zeros (suc (suc (suc zero))) = refl
zeros (suc (suc (suc (suc l)))) = refl

-- No level of the empty record holds anything.
none : (z : Shape) (l t : ℕ) → get_or no_vp.contexts t past_context ≡ no_context → bit (secure_of z no_vp t l) lock_bit ≡ false
unfolding secure_of context number_at
none z l t h = rw (h, cond_same (is_level z t) no_context, zeros l, cond_same {A = ℕ} (ltb l 4) 0, cond_same {A = ℕ} (ltb l t) 0)

empty : (z : Shape) (l : ℕ) → false ≡ holds z no_vp l
unfolding any
empty z l = rw (none z l 0 refl, none z l 1 refl, none z l 2 refl, none z l 3 refl)

known : (b : Bool) (z : Shape) (p : VirtualProcessor) (l : ℕ) → (b && holds z p l) ≡ holds z (cond b p no_vp) l
known true z p l = refl
known false z p l = empty z l

pub returns : goal.returns
returns c = let a = c.args in rw c.holds_lock-held.ensures (known a.there a.shape (vp_of a.vp.now) a.level.0)
