-- Sets of levels: what is read of one after a level was put into it or taken out, and that both commute with hiding.
-- Assumes nothing.
use mathlib.Core.Path.{◌≡◌, refl, sym, ap, ◌∙◌}
use mathlib.Core.Bool.{Bool, true, false, cond, ◌&&◌, and-true, and-false}
use Prim.Native.Nat.{ℕ, ◌+◌, ◌%◌, ◌^◌, ◌≤◌, ◌<◌}
use native.Mathlib.Nat.{mod-eq_of_lt, div-one}
use native.Mathlib.Omega.{arith}
use lib.Dec.{leb, ltb, eqb}
use borrow.Author.Tests.{lt-ltb, le-ltb, ltb-true, ltb-false, leb-true, leb-false, eqb-true, eqb-false}
use Rattle.word.specs.Field.{field, bit, put}
use Rattle.word.proofs.FieldLaws.{put-lt, bit-put-here, bit-put-other}
use Rattle.model.specs.Bounded.{bits}
use Rattle.model.specs.Hide.{hide_set}
use Rattle.model.specs.State.{Shape, LevelSet, top, is_level, in_set, level_set, level_count}
use Rattle.model.specs.Updates.{with_level}
use Rattle.model.proofs.Bools.{and_left}
use Rattle.model.proofs.Four.{below-four, level-low}
use Rattle.model.proofs.Sets.{bit_past, bits-lt, bit-bits, bits-cong, bits_below, bits_of}

-- A number below 2 ^ n is the set of its bits.
pub set-of-bits : (n w : ℕ) → w < 2 ^ n → w ≡ bits n (bit w)
set-of-bits n w h = sym (bits_of n w ∙ mod-eq_of_lt h)

-- The empty set has no level.
pub none_in : (z : Shape) (l : ℕ) → in_set z (level_set 0) l ≡ false
unfolding in_set
none_in z l = rw (bit_past 0 0 l (omega arith) (omega arith)) (and-false (is_level z l))

-- The set of all four has each level of the machine.
pub all_in : (z : Shape) (l : ℕ) → in_set z (level_set 15) l ≡ is_level z l
unfolding in_set
all_in z l = go (is_level z l) refl
  where
    go : (b : Bool) → is_level z l ≡ b → (b && bit 15 l) ≡ b
    go true e = below-four (λ j. bit 15 j ≡ true) refl refl refl refl l (level-low z l e)
    go false e = refl

-- The empty set has nothing to hide.
pub none_hidden : (z : Shape) → hide_set z (level_set 0) ≡ level_set 0
unfolding hide_set bits
none_hidden z = ap level_set (bits-cong 4 (in_set z (level_set 0)) (λ l. false) (λ l h. none_in z l))

module _ (z : Shape) (x : LevelSet) where
  -- A level that is in a set is one of the machine's.
  pub in-level : (l : ℕ) → in_set z x l ≡ true → is_level z l ≡ true
  unfolding in_set
  in-level l h = and_left (is_level z l) _ h

  pub in-hidden : (l : ℕ) → in_set z (hide_set z x) l ≡ in_set z x l
  unfolding hide_set in_set
  in-hidden l = go (is_level z l) refl
    where
      go : (b : Bool) → is_level z l ≡ b → (b && bit (bits 4 (λ l. is_level z l && bit x.0 l)) l) ≡ (b && bit x.0 l)
      go true e = bit-bits 4 (λ l. is_level z l && bit x.0 l) l (level-low z l e) ∙ rw e
      go false e = refl

  pub hidden-twice : hide_set z (hide_set z x) ≡ hide_set z x
  hidden-twice = sets_same (in-hidden)
    where
      sets_same : ((l : ℕ) → in_set z (hide_set z x) l ≡ in_set z x l) → hide_set z (hide_set z x) ≡ hide_set z x
      sets_same h = unfold hide_set in ap level_set (bits-cong 4 _ _ (λ l i. h l))

  module _ (l : ℕ) (b : Bool) (i : is_level z l ≡ true) where
    bit-of : (c : Bool) → bit (cond c 1 0) 0 ≡ c
    bit-of true = refl
    bit-of false = refl

    pub in-here : in_set z (with_level z x l b) l ≡ b
    unfolding with_level in_set
    in-here = rw (i, bit-put-here l x.0 (cond b 1 0)) (bit-of b)

    pub in-other : (j : ℕ) → (j ≡ l → ⊥) → in_set z (with_level z x l b) j ≡ in_set z x j
    unfolding with_level in_set
    in-other j n = rw (i, bit-put-other l j x.0 (cond b 1 0) n)

    pub in-cases : (P : Bool → Type 0) (j : ℕ) → P (in_set z x j) → (j ≡ l → P b) → P (in_set z (with_level z x l b) j)
    in-cases P j old new = go (eqb j l) refl
      where
        go : (c : Bool) → eqb j l ≡ c → P (in_set z (with_level z x l b) j)
        go true e = let q = eqb-true j l e in rw (q, in-here) (new q)
        go false e = rw (in-other j (eqb-false j l e)) old

    put-bits : (t : ℕ) → t < 4 → bit (put l 1 (bits 4 (in_set z x)) (cond b 1 0)) t ≡ in_set z (with_level z x l b) t
    put-bits t h = go (eqb t l) refl
      where
        go : (c : Bool) → eqb t l ≡ c → bit (put l 1 (bits 4 (in_set z x)) (cond b 1 0)) t ≡ in_set z (with_level z x l b) t
        go true e = rw (eqb-true t l e, bit-put-here l (bits 4 (in_set z x)) (cond b 1 0)) (bit-of b ∙ sym in-here)
        go false e = bit-put-other l t (bits 4 (in_set z x)) (cond b 1 0) (eqb-false t l e) ∙ bit-bits 4 (in_set z x) t h ∙ sym (in-other t (eqb-false t l e))

    put-hidden : with_level z (hide_set z x) l b ≡ level_set (put l 1 (bits 4 (in_set z x)) (cond b 1 0))
    unfolding with_level hide_set
    put-hidden = rw i

    pub with-hidden : with_level z (hide_set z x) l b ≡ hide_set z (with_level z x l b)
    unfolding hide_set
    with-hidden = put-hidden ∙ ap level_set (
        set-of-bits 4 (put l 1 (bits 4 (in_set z x)) (cond b 1 0)) (put-lt l 1 4 (bits 4 (in_set z x)) (cond b 1 0) (bits-lt 4 (in_set z x)) (omega (arith, level-low z l i)))
        ∙ bits-cong 4 _ (in_set z (with_level z x l b)) put-bits)

-- A level below 4 is one of the machine where it is below their number.
counted : (z : Shape) (l : ℕ) → l < 4 → ltb l (level_count z) ≡ is_level z l
unfolding is_level
counted z l h = go (ltb (top z) 4) refl (leb l (top z)) refl ∙ sym (rw (lt-ltb l 4 h, and-true))
  where
    go : (b : Bool) → ltb (top z) 4 ≡ b → (c : Bool) → leb l (top z) ≡ c → ltb l (cond b (top z + 1) 4) ≡ leb l (top z)
    go true e true f = rw f (lt-ltb l (top z + 1) (omega (arith, leb-true l (top z) f)))
    go true e false f = rw f (le-ltb l (top z + 1) (omega (arith, leb-false l (top z) f)))
    go false e true f = rw f (lt-ltb l 4 h)
    go false e false f = absurd (omega (arith, ltb-false (top z) 4 e, leb-false l (top z) f))

few : (z : Shape) → level_count z ≤ 4
few z = go (ltb (top z) 4) refl
  where
    go : (b : Bool) → ltb (top z) 4 ≡ b → cond b (top z + 1) 4 ≤ 4
    go true e = omega (arith, ltb-true (top z) 4 e)
    go false e = omega arith

-- The levels 0 to M of a set are its low bits.
pub low_bits : (z : Shape) (x : LevelSet) → field 0 (level_count z) x.0 ≡ bits 4 (in_set z x)
unfolding in_set
low_bits z x =
    ap (λ k. k % 2 ^ level_count z) (div-one x.0) ∙ sym (bits_of (level_count z) x.0) ∙ sym (bits_below 4 (level_count z) (bit x.0) (few z))
    ∙ bits-cong 4 _ _ (λ l h. rw (counted z l h))
