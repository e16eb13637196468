-- What a well-formed state has: indices in range are places of its arrays, active levels are enabled, masks are valid.
-- Assumes nothing.
use mathlib.Core.Path.{◌≡◌, refl}
use mathlib.Core.Bool.{Bool, true, false, ◌&&◌}
use Prim.Native.Nat.{ℕ, zero, suc, ◌≤◌, ◌<◌}
use native.Mathlib.Omega.{arith}
use lib.Dec.{leb, ltb}
use lib.ListN.{length}
use borrow.Author.Tests.{eqb-true, lt-ltb, le-leb, ltb-true, ltb-false, leb-true, leb-false}
use Rattle.model.specs.Masks.{valid_mask}
use Rattle.model.specs.State.{State, in_range, partition, processors, shape, top, max_level_of, pages, is_level, is_processor, is_page, vp, active_of, enabled_at, mask_in, mask_of, host_mask_of}
use Rattle.model.specs.WellFormed.{well_sized, well_formed_vp, well_formed_level, well_formed_parts, well_moded, well_formed}
use Rattle.model.proofs.Bools.{and_left, and_right, implied, hold}
use Rattle.model.proofs.BoundedLaws.{every-at}
use Rattle.model.proofs.Found.{enabled-level}

module _ (s : State) (w : well_formed s ≡ true) where
  pub well-sized : well_sized s ≡ true
  unfolding well_formed
  well-sized = and_left (well_sized s) (well_formed_parts s) (and_left (well_sized s && well_formed_parts s) (well_moded s) w)

  sizes : in_range (processors s) (max_level_of s) (pages s) ≡ true
  unfolding well_sized
  sizes = and_left (in_range (processors s) (max_level_of s) (pages s)) _ well-sized

  pub well-parts : well_formed_parts s ≡ true
  unfolding well_formed
  well-parts = and_right (well_sized s) (well_formed_parts s) (and_left (well_sized s && well_formed_parts s) (well_moded s) w)

  pub well-moded : well_moded s ≡ true
  unfolding well_formed
  well-moded = and_right (well_sized s && well_formed_parts s) (well_moded s) w

  pub four-processors : processors s ≤ 4
  unfolding in_range
  four-processors = leb-true _ _ (hold _ sizes).1.0

  -- An index that is in range is a place of an array.
  pub is-processor : (v : ℕ) → leb (processors s) v ≡ false → is_processor s v ≡ true
  unfolding is_processor well_sized in_range
  is-processor v h =
      let four = four-processors in
      let below : v < processors s = leb-false (processors s) v h in
      rw (lt-ltb v (processors s) below, lt-ltb v 4 (omega arith))

  pub is-level : (l : ℕ) → ltb (max_level_of s) l ≡ false → is_level (shape s) l ≡ true
  unfolding is_level well_sized in_range max_level_of
  is-level l h =
      let three : top (shape s) ≤ 3 = leb-true _ _ (hold _ sizes).1.1.0 in
      let up_to : l ≤ top (shape s) = ltb-false (top (shape s)) l h in
      rw (le-leb l (top (shape s)) up_to, lt-ltb l 4 (omega arith))

  pub is-page : (p : ℕ) → leb (pages s) p ≡ false → is_page s p ≡ true
  unfolding is_page well_sized in_range
  is-page p h =
      let many : pages s ≤ 64 = leb-true _ _ (hold _ sizes).1.1.1.1.0 in
      let below : p < pages s = leb-false (pages s) p h in
      rw (lt-ltb p (pages s) below, lt-ltb p 64 (omega arith))

  pub well-vp : (v : ℕ) → is_processor s v ≡ true → well_formed_vp (shape s) (partition s) (vp s v) ≡ true
  unfolding well_formed_parts is_processor
  well-vp v h = implied (is_processor s v) _ (every-at 4 _ (hold _ well-parts).0 v (ltb-true v 4 (and_right (ltb v (processors s)) (ltb v 4) h))) h

  -- The active level is enabled, so it is one of the machine's.
  pub active_on : (v : ℕ) → is_processor s v ≡ true → enabled_at (shape s) (vp s v) (active_of (vp s v)) ≡ true
  unfolding well_formed_vp
  active_on v h = (hold _ (well-vp v h)).1.1.0

  pub four-contexts : (v : ℕ) → is_processor s v ≡ true → length (vp s v).contexts ≡ 4
  unfolding well_formed_vp
  four-contexts v h = eqb-true _ 4 (hold _ (well-vp v h)).0

  pub active-level : (v : ℕ) → is_processor s v ≡ true → is_level (shape s) (active_of (vp s v)) ≡ true
  active-level v h = enabled-level (shape s) (vp s v) (active_of (vp s v)) (active_on v h)

  pub well-level : (l : ℕ) → 0 < l → l < 4 → well_formed_level s l ≡ true
  unfolding well_formed_parts
  well-level zero a b = absurd (omega arith)
  well-level (suc l) a b = every-at 3 _ (hold _ well-parts).1.0 l (omega arith)

  -- Masks are valid.
  pub host-valid : (p : ℕ) → valid_mask (host_mask_of s p) ≡ true
  unfolding well_formed_parts host_mask_of
  host-valid p = (hold _ well-parts).1.1.0

  pub mask-valid : (l p : ℕ) → valid_mask (mask_of s l p) ≡ true
  unfolding mask_of mask_in is_level is_page well_formed_level
  mask-valid l p = go (ltb 0 l && is_level (shape s) l && is_page s p) refl
    where
      go : (b : Bool) → (ltb 0 l && is_level (shape s) l && is_page s p) ≡ b → valid_mask (mask_of s l p) ≡ true
      go true e =
          let q = and_left (ltb 0 l && is_level (shape s) l) (is_page s p) e in
          let low : l < 4 = ltb-true l 4 (and_right (leb l (top (shape s))) (ltb l 4) (and_right (ltb 0 l) (is_level (shape s) l) q)) in
          let page : p < 64 = ltb-true p 64 (and_right (ltb p (pages s)) (ltb p 64) (and_right (ltb 0 l && is_level (shape s) l) (is_page s p) e)) in
          every-at 64 _ (hold _ (well-level l (ltb-true 0 l (and_left (ltb 0 l) (is_level (shape s) l) q)) low)).0 p page
      go false e = rw e
