-- The fresh machine of an admissible first line is well formed. Assumes nothing.
use mathlib.Core.Path.{◌≡◌, refl, sym, ◌∙◌}
use mathlib.Core.Bool.{Bool, true, false, not, ◌&&◌, false≢true, and-false}
use Prim.Native.Nat.{ℕ, zero, suc, ◌+◌, ◌*◌, ◌≤◌, ◌<◌}
use native.Mathlib.Omega.{arith}
use lib.Dec.{leb, ltb, eqb, leb-zero}
use lib.ListN.{length, get_or, replicate, length-replicate, get_or-replicate}
use borrow.Author.Tests.{ltb-true, leb-true, eq-eqb, ne_eqb}
use Rattle.model.specs.Arrays.{number_at}
use Rattle.model.specs.Bounded.{every, all_of}
use Rattle.model.specs.Claims.{FreshWellFormed}
use Rattle.model.specs.Fresh.{admissible, level_zero_alone, fresh_vp, fresh}
use Rattle.model.specs.Masks.{valid_mask, default_mask, turns_on, reserved_set}
use Rattle.model.specs.State.{FirstLine, in_range, is_level, in_set, is_processor, no_context, past_context, processors, shape, top, max_level_of, pages, partition, vp, context, active_of, enabled_at, enabled_on, enabled_for, mbec_for, config_in, config_of, mask_in, mask_of}
use Rattle.model.specs.WellFormed.{well_sized, never_entered, well_formed_context, well_formed_vp, well_formed_level, well_formed_parts, well_moded_vp, well_moded, well_formed}
use Rattle.model.proofs.Bools.{and_left, and_right, and_both, implies-test, hold, all_hold, cond_same, cond-holds}
use Rattle.model.proofs.BoundedLaws.{every-all}
use Rattle.model.proofs.Four.{below-four}
use Rattle.model.proofs.LevelSets.{none_in}

context-ok : (mbec from_on : Bool) (l : ℕ) → l ≤ 3 → well_formed_context l (eqb l 0) (eqb l 0) mbec from_on no_context ≡ true
unfolding well_formed_context never_entered number_at every all_of
context-ok mbec from_on l h = below-four (λ l. well_formed_context l (eqb l 0) (eqb l 0) mbec from_on no_context ≡ true) refl refl refl refl l (omega (arith, h))

-- What holds of an entry and of 0 holds of what is read from a list of such entries.
replicated : (P : ℕ → Type 0) (k : ℕ) → P k → P 0 → (n i : ℕ) → P (get_or (replicate n k) i 0)
replicated P k a b zero i = b
replicated P k a b (suc n) zero = a
replicated P k a b (suc n) (suc i) = replicated P k a b n i

module _ (f : FirstLine) where
  vp-fresh : (v : ℕ) → is_processor (fresh f) v ≡ true → vp (fresh f) v ≡ fresh_vp
  unfolding vp is_processor fresh
  vp-fresh v h = rw h (get_or-replicate 4 v fresh_vp _ (ltb-true v 4 (and_right (ltb v (processors (fresh f))) (ltb v 4) h)))

  -- Level 0 is one of the machine's levels. A level that is not is not enabled either.
  is-zeroth : is_level (shape (fresh f)) 0 ≡ true
  unfolding is_level top shape fresh
  is-zeroth = rw leb-zero

  context-fresh : (l : ℕ) → l ≤ 3 → context (shape (fresh f)) fresh_vp l ≡ no_context
  unfolding context
  context-fresh l h = rw (get_or-replicate 4 l no_context past_context (omega arith)) (cond_same (is_level _ l) no_context)

  -- Level 0 alone is enabled.
  zero-alone : (l : ℕ) → l ≤ 3 → in_set (shape (fresh f)) level_zero_alone l ≡ eqb l 0
  unfolding in_set
  zero-alone l h = below-four (λ l. in_set (shape (fresh f)) level_zero_alone l ≡ eqb l 0) (rw (in_set, is-zeroth)) (and-false (is_level _ 1)) (and-false (is_level _ 2)) (and-false (is_level _ 3)) l (omega (arith, h))

  enabled-fresh : (l : ℕ) → l ≤ 3 → enabled_for (fresh f) l ≡ eqb l 0
  unfolding enabled_for partition fresh
  enabled-fresh = zero-alone

  mbec-fresh : (l : ℕ) → mbec_for (fresh f) l ≡ false
  unfolding mbec_for partition fresh
  mbec-fresh l = none_in (shape (fresh f)) l

  up-fresh : (l : ℕ) → l ≤ 3 → enabled_at (shape (fresh f)) fresh_vp l ≡ eqb l 0
  unfolding enabled_at
  up-fresh = zero-alone

  vp-ok : well_formed_vp (shape (fresh f)) (partition (fresh f)) fresh_vp ≡ true
  unfolding well_formed_vp active_of enabled_for mbec_for
  vp-ok =
      all_hold _ (refl, (up-fresh 0 (omega arith), (up-fresh 0 (omega arith), (every-all 4 _ (λ l i. rw (context-fresh l (omega arith), enabled-fresh l (omega arith), up-fresh l (omega arith)) (context-ok (mbec_for (fresh f) l) _ l (omega arith))), tt))))

  -- A mask is 15, or 0 where there is none.
  mask-ok : (P : ℕ → Type 0) → P 15 → P 0 → (l p : ℕ) → P (mask_of (fresh f) l p)
  unfolding mask_of mask_in partition number_at fresh
  mask-ok P a b l p = cond-holds P (ltb 0 l && is_level (shape (fresh f)) l && (ltb p (pages (fresh f)) && ltb p 64)) _ 0 (cond-holds P (ltb (4 * p + l) 256) _ 0 (replicated P 15 a b 256 (4 * p + l)) b) b

  masks-ok : (l : ℕ) → every 64 (λ p. valid_mask (mask_of (fresh f) l p)) ≡ true
  masks-ok l = every-all 64 _ (λ p i. mask-ok (λ k. valid_mask k ≡ true) refl refl l p)

  -- A configuration word is 62, or 0 where there is none.
  config-ok : (P : ℕ → Type 0) → P 62 → P 0 → (l : ℕ) → P (config_of (fresh f) l)
  unfolding config_of config_in partition number_at fresh
  config-ok P a b l = cond-holds P (ltb 0 l && is_level (shape (fresh f)) l) _ 0 (cond-holds P (ltb l 4) _ 0 (replicated P 62 a b 4 l) b) b

  level-ok : (l : ℕ) → well_formed_level (fresh f) (suc l) ≡ true
  unfolding well_formed_level
  level-ok l = rw (mbec-fresh (suc l)) (all_hold _ (
    masks-ok (suc l),
    (
      config-ok (λ w. valid_mask (default_mask w) ≡ true) refl refl (suc l),
      (config-ok (λ w. not (reserved_set w) ≡ true) refl refl (suc l), (rw (config-ok (λ w. turns_on w ≡ false) refl refl (suc l)), (refl, (refl, tt)))),
    ),
  ))

  parts-ok : valid_mask f.host_mask ≡ true → well_formed_parts (fresh f) ≡ true
  unfolding well_formed_parts fresh
  parts-ok host = all_hold _ (
    every-all 4 _ (λ v i. implies-test (is_processor (fresh f) v) _ (λ h. rw (vp-fresh v h) vp-ok)),
    (every-all 3 _ (λ l i. level-ok l), (host, (rw (mbec-fresh 0), tt))),
  )

  -- No level above 0 is enabled.
  off : (v l : ℕ) → l ≤ 3 → 0 < l → enabled_on (fresh f) v l ≡ false
  unfolding enabled_on enabled_at vp
  off v l i h = go (is_processor (fresh f) v) refl
    where
      go : (b : Bool) → is_processor (fresh f) v ≡ b → enabled_at (shape (fresh f)) (vp (fresh f) v) l ≡ false
      go true e = rw (vp-fresh v e) (up-fresh l i ∙ ne_eqb l 0 (λ z. omega arith))
      go false e = rw e (none_in (shape (fresh f)) l)

  modes-ok : well_moded (fresh f) ≡ true
  unfolding well_moded well_moded_vp
  modes-ok = every-all 4 _ (λ v i. every-all 4 _ (λ l j. implies-test (ltb 0 l && enabled_at (shape (fresh f)) (vp (fresh f) v) l) _ (λ h.
      absurd (false≢true (sym (off v l (omega arith) (ltb-true 0 l (and_left (ltb 0 l) _ h))) ∙ unfold enabled_on in and_right (ltb 0 l) (enabled_at (shape (fresh f)) (vp (fresh f) v) l) h)))))

pub fresh-well-formed : FreshWellFormed
unfolding admissible well_formed well_sized processors pages max_level_of top shape fresh
fresh-well-formed f h =
    let sizes : Bool = in_range f.processors f.max_level.0 f.pages in
    let masked = and_left (sizes && leb f.dr6_shared 1 && valid_mask f.host_mask) (leb f.smep 1) h in
    let rest = and_left (sizes && leb f.dr6_shared 1) (valid_mask f.host_mask) masked in
    let host = and_right (sizes && leb f.dr6_shared 1) (valid_mask f.host_mask) masked in
    let lent : eqb (length {A = ℕ} (replicate f.pages 0)) f.pages ≡ true = eq-eqb _ _ (length-replicate {A = ℕ} f.pages 0) in
    and_both (well_sized (fresh f) && well_formed_parts (fresh f)) (well_moded (fresh f))
    (and_both (well_sized (fresh f)) (well_formed_parts (fresh f)) (and_both sizes _ (and_left sizes (leb f.dr6_shared 1) rest) lent) (parts-ok f host))
    (modes-ok f)

-- A first line that is admissible has at most 64 pages.
pub few-pages : (f : FirstLine) → admissible f ≡ true → f.pages ≤ 64
unfolding admissible in_range
few-pages f h =
    let sizes : Bool = in_range f.processors f.max_level.0 f.pages in
    let masked = and_left (sizes && leb f.dr6_shared 1 && valid_mask f.host_mask) (leb f.smep 1) h in
    leb-true f.pages 64 (hold _ (and_left sizes (leb f.dr6_shared 1) (and_left (sizes && leb f.dr6_shared 1) (valid_mask f.host_mask) masked))).1.1.1.1.0
