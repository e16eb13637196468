-- Clauses of a well-formed state (01, "Well formed") that the code tests in another form or order: what a level holds of lower
-- levels, each place for a processor, and the whole state. Assumes nothing.
use mathlib.Core.Path.{◌≡◌, refl, sym}
use mathlib.Core.Bool.{Bool, true, false, not, cond, ◌&&◌, and-true, and-false, and_assoc}
use mathlib.Core.List.{List, [], ◌∷◌}
use Prim.Native.Nat.{ℕ, zero, suc, ◌<◌}
use native.Mathlib.Omega.{arith}
use lib.Dec.{ltb, eqb}
use lib.ListN.{get_or, length}
use Rattle.model.proofs.BoundedLaws.{every-and}
use Rattle.model.proofs.LevelSets.{none_in}
use Rattle.model.specs.declared.machine.Shape.{Shape}
use Rattle.model.specs.declared.machine.VirtualProcessor.{VirtualProcessor}
use Rattle.model.specs.Arrays.{number_at}
use Rattle.model.specs.Bounded.{every, all_of}
use Rattle.model.specs.Masks.{valid_mask}
use Rattle.model.specs.State.{State, in_range, processors, max_level_of, pages, partition, shape, is_processor, vp, no_vp}
use Rattle.model.specs.State.{past_vp, context, secure_of, enabled_at, mbec_for}
use Rattle.model.specs.WellFormed.{◌implies◌, well_sized, well_formed_vp, well_formed_level, well_formed_parts, well_formed}
use Rattle.model.specs.WellFormed.{well_moded_vp, well_moded}
use Rattle.state.specs.SecureWord.{well_configured}

-- Tests that all hold, joined from the left as code joins them.
abbrev joined : Bool → List Bool → Bool
joined a [] = a
joined a (b ∷ bs) = joined (a && b) bs

pub all-joined : (a : Bool) (bs : List Bool) → joined a bs ≡ all_of (a ∷ bs)
unfolding all_of
all-joined a [] = sym (and-true a)
all-joined true (b ∷ bs) = all-joined b bs
all-joined false (b ∷ bs) = all-joined false bs

-- A level holds 0 of itself and of higher levels, and 0 is well formed.
pub below-configured : (z : Shape) (p : VirtualProcessor) (l : ℕ) (mbec : Bool) → l < 4
    → (let held = well_configured mbec in held (secure_of z p l 0) && held (secure_of z p l 1) && held (secure_of z p l 2))
    ≡ every l (λ j. well_configured mbec (number_at 4 (context z p l).secure j))
unfolding secure_of every
below-configured z p zero mbec h = refl
below-configured z p (suc zero) mbec h = simp and-true
below-configured z p (suc (suc zero)) mbec h = simp and-true
below-configured z p (suc (suc (suc zero))) mbec h = refl
below-configured z p (suc (suc (suc (suc l)))) mbec h = absurd (omega arith)

-- The empty record has no level that is enabled.
empty-moded : (z : Shape) → well_moded_vp z no_vp ≡ true
unfolding well_moded_vp every enabled_at
empty-moded z = rw (none_in z 1, none_in z 2, none_in z 3)

-- A place for a processor is well formed where what stands there is, or where there is none.
place-formed : (z : Shape) (known : Bool) (formed : VirtualProcessor → Bool) (p : VirtualProcessor)
    → (known implies (formed p && well_moded_vp z p))
    ≡ ((known implies formed (cond known p no_vp)) && well_moded_vp z (cond known p no_vp))
place-formed z true formed p = refl
place-formed z false formed p = sym (empty-moded z)

-- The clauses of a state, in the code's order and in that of the rule.
module _ (s : State) where
  -- What stands at place v, and what is tested there.
  abbrev kept : ℕ → VirtualProcessor
  kept v = get_or s.machine.vps v past_vp

  abbrev placed : ℕ → Bool
  placed v =
      ltb v (processors s) implies (well_formed_vp (shape s) (partition s) (kept v) && well_moded_vp (shape s) (kept v))

  abbrev formed_at : ℕ → Bool
  formed_at v = is_processor s v implies well_formed_vp (shape s) (partition s) (vp s v)

  place_of : (v : ℕ) → ltb v 4 ≡ true → placed v ≡ (formed_at v && well_moded_vp (shape s) (vp s v))
  unfolding is_processor vp
  place_of v h =
      rw (h, and-true (ltb v (processors s)))
      (place-formed (shape s) (ltb v (processors s)) (well_formed_vp (shape s) (partition s)) (kept v))

  places_of : (placed 0 && placed 1 && placed 2 && placed 3) ≡ (every 4 formed_at && well_moded s)
  unfolding well_moded every
  places_of =
      rw (place_of 0 refl, place_of 1 refl, place_of 2 refl, place_of 3 refl)
      (every-and 4 formed_at (λ v. well_moded_vp (shape s) (vp s v)))

  pub state-formed :
      (in_range (processors s) (max_level_of s) (pages s)
      && eqb (length s.words) (pages s)
      && (placed 0 && placed 1 && placed 2 && placed 3)
      && every 3 (λ i. well_formed_level s (suc i))
      && valid_mask s.machine.host_mask
      && not (mbec_for s 0))
      ≡ well_formed s
  unfolding well_formed well_formed_parts well_sized all_of
  state-formed = rw places_of (go (well_moded s) (well_sized s) (every 4 formed_at) _ _ _)
    where
      go : (mode sized formed levels host low : Bool)
          → (sized && (formed && mode) && levels && host && low)
          ≡ (sized && (formed && (levels && (host && (low && true)))) && mode)
      go true sized formed levels host low = simp (and-true, and_assoc)
      go false sized formed levels host low = simp and-false
