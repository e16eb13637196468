-- The outcome of a rule from its answer, and what a rule asks of a state, said of the parts that a function is given. Assumes nothing.
use mathlib.Core.Path.{◌≡◌, refl, ap, ◌∙◌}
use mathlib.Core.Bool.{true, false}
use mathlib.Core.Option.{Option, some}
use Prim.Native.Nat.{ℕ}
use lib.Dec.{leb, ltb}
use lib.Seq.{set-get_or}
use borrow.Author.Tests.{ltb-true, lt-leb}
use Rattle.model.proofs.Bools.{and_left, and_right}
use Rattle.model.specs.declared.answer.Answer.TheVariants.{Done, Refused, Intercept}
use Rattle.model.specs.declared.answer.Refusal.{Refusal}
use Rattle.model.specs.declared.machine.Partition.{Partition}
use Rattle.model.specs.declared.machine.Shape.{Shape}
use Rattle.model.specs.declared.machine.VirtualProcessor.{VirtualProcessor}
use Rattle.model.specs.declared.quantity.Level.{Level}
use Rattle.model.specs.Arrays.{stored}
use Rattle.model.specs.Entry.{enter, by_interrupt}
use Rattle.model.specs.Events.{Rule}
use Rattle.model.specs.Masks.{protects_in, protects}
use Rattle.model.specs.State.{State, shape, vp, processors, partition, top, max_level_of, in_set, active_of, active, config_in, config_of, enabled_at, enabled_on, enabled_for, mbec_for, is_processor, past_vp}
use Rattle.model.specs.Step.{answer_by, outcome, intercepted, next_for}
use Rattle.model.specs.Updates.{put_vp, put_partition, on_vp, on_partition}
use Rattle.promise.specs.Promise.{outcome_of, Runs}

-- A processor's own record put back changes nothing, nor does what the partition holds.
pub put-own : (s : State) (w : ℕ) → is_processor s w ≡ true → put_vp s w (vp s w) ≡ s
unfolding put_vp vp stored is_processor
put-own s w h = rw (h, and_right (ltb w (processors s)) (ltb w 4) h, set-get_or s.machine.vps w past_vp)

pub put-partition : (s : State) → put_partition s (partition s) ≡ s
unfolding put_partition partition
put-partition s = refl

-- It is one of the processors.
pub inside : (s : State) (w : ℕ) → is_processor s w ≡ true → leb (processors s) w ≡ false
unfolding is_processor
inside s w h = lt-leb (processors s) w (ltb-true w (processors s) (and_left (ltb w (processors s)) (ltb w 4) h))

-- What a rule leaves where it refuses, and where the event is done.
module _ (s : State) (by : Option ℕ) (rule : Rule) where
  pub refused : {r : Refusal} → answer_by rule ≡ Refused r → outcome s by rule ≡ outcome_of (Refused r) s
  unfolding next_for
  refused q = rw q

  pub done : {x : ℕ} → answer_by rule ≡ Done x → outcome s by rule ≡ outcome_of (Done x) rule.effect
  unfolding next_for
  done q = rw q

  -- On processor w's record: it stays, where the event is refused or only reads, or the effect is a change f of it.
  module _ {z : Shape} {p : VirtualProcessor} {w : ℕ} (h : Runs z p s w) where
    pub record-stays : {r : Refusal} → answer_by rule ≡ Refused r → outcome s by rule ≡ outcome_of (Refused r) (put_vp s w p)
    record-stays q = refused q ∙ rw (← h.holds, put-own s w h.there)

    pub record-read : rule.effect ≡ s → {x : ℕ} → answer_by rule ≡ Done x → outcome s by rule ≡ outcome_of (Done x) (put_vp s w p)
    record-read on q = done q ∙ rw (on, ← h.holds, put-own s w h.there)

    pub record-changes : (f : Shape → VirtualProcessor → VirtualProcessor) → rule.effect ≡ on_vp s w f
        → {x : ℕ} → answer_by rule ≡ Done x → {q : VirtualProcessor} → q ≡ f z p → outcome s by rule ≡ outcome_of (Done x) (put_vp s w q)
    unfolding on_vp
    record-changes f on a {q} k = done a ∙ rw (on, k, ← h.shaped, ← h.holds)

  -- On what the partition holds.
  module _ {z : Shape} {x : Partition} (shaped : shape s ≡ z) (keeps : partition s ≡ x) where
    pub partition-stays : {r : Refusal} → answer_by rule ≡ Refused r → outcome s by rule ≡ outcome_of (Refused r) (put_partition s x)
    partition-stays q = refused q ∙ rw (← keeps, put-partition s)

    pub partition-changes : (f : Shape → Partition → Partition) → rule.effect ≡ on_partition s f
        → {n : ℕ} → answer_by rule ≡ Done n → {y : Partition} → y ≡ f z x → outcome s by rule ≡ outcome_of (Done n) (put_partition s y)
    unfolding on_partition
    partition-changes f on a {y} k = done a ∙ rw (on, k, ← shaped, ← keeps)

-- At 9 the maker's processor w enters the receiver.
pub record-entered : (s : State) (rule : Rule) {z : Shape} {p : VirtualProcessor} {w : ℕ} → Runs z p s w
    → {l : Level} → answer_by rule ≡ Intercept l → {q : VirtualProcessor} → q ≡ enter z p l.0 by_interrupt → outcome s (some w) rule ≡ outcome_of (Intercept l) (put_vp s w q)
unfolding next_for intercepted on_vp
record-entered s rule h a k = rw (a, k, ← h.shaped, ← h.holds)

-- What a rule asks of the state, by its shape.
pub the-maximum : {z : Shape} (s : State) → shape s ≡ z → max_level_of s ≡ z.max_level.0
unfolding max_level_of top
the-maximum s e = ap (λ y. y.max_level.0) e

-- By the record of a processor.
module _ {z : Shape} {p : VirtualProcessor} {s : State} {v : ℕ} (h : Runs z p s v) where
  pub the-actor : active s v ≡ active_of p
  unfolding active
  the-actor = ap active_of h.holds

  pub the-enabled-on : (l : ℕ) → enabled_on s v l ≡ enabled_at z p l
  unfolding enabled_on
  the-enabled-on l = rw (h.shaped, h.holds)

-- By what the partition holds.
module _ {z : Shape} {x : Partition} (s : State) (shaped : shape s ≡ z) (keeps : partition s ≡ x) where
  pub the-enabled : (l : ℕ) → enabled_for s l ≡ in_set z x.enabled l
  unfolding enabled_for
  the-enabled l = rw (shaped, keeps)

  pub the-mbec : (l : ℕ) → mbec_for s l ≡ in_set z x.mbec l
  unfolding mbec_for
  the-mbec l = rw (shaped, keeps)

  pub the-config : (l : ℕ) → config_of s l ≡ config_in z x.configs l
  unfolding config_of
  the-config l = rw (shaped, keeps)

  pub the-protection : (l : ℕ) → protects s l ≡ protects_in z x.configs l
  unfolding protects
  the-protection l = rw (shaped, keeps)
