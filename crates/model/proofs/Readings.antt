-- Two readings that go wrong (01, "Readings that go wrong"), each ruled out by a law: XMM0 kept per level, and IF holding an entry back.
-- Assumes nothing.
use mathlib.Core.Path.{◌≡◌, refl, sym, ap}
use mathlib.Core.Bool.{Bool, not, ◌&&◌}
use Prim.Native.Nat.{ℕ, ◌-◌}
use native.Mathlib.Omega.{arith}
use borrow.Author.Tests.{le-ltb, lt-ltb, ne_eqb}
use lib.Dec.{ltb, eqb}
use lib.Seq.{get_or-set_same}
use Rattle.model.specs.Arrays.{number_at, stored}
use Rattle.model.specs.Bounded.{highest}
use Rattle.model.specs.Claims.{SharedByAll, FlagsPlayNoPart}
use Rattle.model.specs.Entry.{enters, highest_ready, is_ready, waiting}
use Rattle.model.specs.Registers.{rflags, is_private, register_of, shared_of}
use Rattle.model.specs.State.{Context, Shape, VirtualProcessor, active_of, context, enabled_at, is_pending}
use Rattle.model.specs.Updates.{put_context, set_private, set_register, set_shared}
use Rattle.model.proofs.Moves.{context-cases, put-enabled}

-- What decides about a vector: the TPR class and the pending words.
record SameVectors (c d : Context) : Type 0 where
  class : c.tpr ≡ d.tpr
  pending : c.pending ≡ d.pending

vectors-kept : (z : Shape) (p : VirtualProcessor) (l r x g : ℕ) → SameVectors (context z (set_private z p l r x) g) (context z p g)
unfolding set_private
vectors-kept z p l r x g = context-cases (λ c. SameVectors c (context z p g)) z p l g _ (record { class = refl; pending = refl }) (λ e. record { class = ap (λ (k : ℕ). (context z p k).tpr) (sym e); pending = ap (λ (k : ℕ). (context z p k).pending) (sym e) })

highest-same : (c d : Context) → SameVectors c d → highest_ready c ≡ highest_ready d
unfolding highest_ready is_pending is_ready
highest-same c d s = rw (s.class, s.pending)

-- Whether a level would be entered at a return.
abbrev waits : Shape → VirtualProcessor → ℕ → Bool
waits z p k = ltb (active_of p) k && enabled_at z p k && not (eqb (highest_ready (context z p k)) 0)

pub flags-play-no-part : FlagsPlayNoPart
unfolding enters waiting is_ready
flags-play-no-part z p l x g n =
    let q = set_private z p l rflags x in
    let on : active_of q ≡ active_of p = unfold active_of set_private put_context in refl in
    let same : (k : ℕ) → enabled_at z q k ≡ enabled_at z p k = unfold set_private in put-enabled z p l _ in
    let each : (k : ℕ) → waits z q k ≡ waits z p k = λ k. rw (on, same k, highest-same _ _ (vectors-kept z p l rflags x k)) in
    (rw (on, (vectors-kept z p l rflags x g).class), ap (highest 4) (λ i k. each k i))

pub shared-by-all : SharedByAll
unfolding register_of set_register is_private shared_of set_shared number_at stored
shared-by-all z p l m r x size from to =
    rw (le-ltb r 12 (omega (arith, from)), ne_eqb r 12 (λ e. omega (arith, from, e)), lt-ltb (r - 12) 20 (omega (arith, to)), get_or-set_same p.shared (r - 12) x 0 (omega (arith, to, size)))
