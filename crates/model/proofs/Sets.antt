-- Sets of numbers as the bits of a number: what `bits` collects is read back bit by bit. Assumes nothing.
use mathlib.Core.Path.{◌≡◌, refl, sym, ap, ◌∙◌}
use mathlib.Core.Bool.{Bool, true, false, not, cond, ◌&&◌, ◌||◌, or-true, or-false}
use Prim.Native.Nat.{ℕ, zero, suc, ◌+◌, ◌*◌, ◌/◌, ◌%◌, ◌^◌, ◌≤◌, ◌<◌}
use native.Mathlib.Nat.{zero-add, add-zero, pow-suc, mod-one, lt_of_lt_of_le}
use native.Mathlib.Omega.{arith}
use lib.Dec.{ltb, eqb}
use lib.Pow.{pow_pos, pow_mono, high, low}
use borrow.Author.Tests.{lt-ltb, le-ltb, eqb-true, eqb-false, ne_eqb}
use Rattle.word.specs.Field.{field, bit}
use Rattle.word.proofs.FieldLaws.{field_lt, field_end, field-mod, field_past}
use Rattle.model.specs.Bounded.{any, least, bits}

-- A choice between a number and 0 is at most the number.
pub cond-le : (b : Bool) (n : ℕ) → cond b n 0 ≤ n
cond-le true n = omega arith
cond-le false n = omega arith

-- A bit past the end of a word is not set.
pub bit_past : (w n i : ℕ) → w < 2 ^ n → n ≤ i → bit w i ≡ false
bit_past w n i h l = rw (field_past i 1 w (lt_of_lt_of_le h (pow_mono l)))

-- A bit put above a number of n bits: the bits below it stay, and bit n is the new one.
module _ (n w x : ℕ) (fits : w < 2 ^ n) where
  swapped : w + x * 2 ^ n ≡ x * 2 ^ n + w
  swapped = omega arith

  bit_below : (t : ℕ) → t < n → bit (w + x * 2 ^ n) t ≡ bit w t
  bit_below t h =
      ap (λ k. eqb k 1) (sym (field-mod t 1 n _ (omega arith)) ∙ ap (field t 1) (ap (λ k. k % 2 ^ n) swapped ∙ low x n fits))

  bit-above : bit (w + x * 2 ^ n) n ≡ eqb (x % 2 ^ 1) 1
  bit-above = ap (λ k. eqb (k % 2 ^ 1) 1) (ap (λ k. k / 2 ^ n) swapped ∙ high x n fits)

-- The number that a set of one more element has, by the test of that element.
by-test : (n : ℕ) (b : Bool) → cond b (2 ^ n) 0 ≡ cond b 1 0 * 2 ^ n
by-test n true = omega arith
by-test n false = omega arith

-- A set of numbers below n has n bits.
pub bits-lt : (n : ℕ) (f : ℕ → Bool) → bits n f < 2 ^ n
unfolding bits
bits-lt zero f = omega arith
bits-lt (suc n) f = rw pow-suc (omega (arith, bits-lt n f, cond-le (f n) (2 ^ n)))

-- Bit t of the set tells whether t passes.
pub bit-bits : (n : ℕ) (f : ℕ → Bool) (t : ℕ) → t < n → bit (bits n f) t ≡ f t
unfolding bits
bit-bits zero f t h = absurd (omega arith)
bit-bits (suc n) f t h = ap (λ x. bit (bits n f + x) t) (by-test n (f n)) ∙ go (eqb t n) refl (bit-bits n f t)
  where
    one : (b : Bool) → eqb (cond b 1 0 % 2 ^ 1) 1 ≡ b
    one true = refl
    one false = refl

    go : (b : Bool) → eqb t n ≡ b → (t < n → bit (bits n f) t ≡ f t) → bit (bits n f + cond (f n) 1 0 * 2 ^ n) t ≡ f t
    go true e below = rw (eqb-true t n e) (bit-above n (bits n f) (cond (f n) 1 0) (bits-lt n f) ∙ one (f n))
    go false e below =
        let ne : (t ≡ n → ⊥) = eqb-false t n e in
        let l : t < n = omega arith in
        bit_below n (bits n f) (cond (f n) 1 0) (bits-lt n f) t l ∙ below l

-- The set is not empty where some number passes.
pub any-bits : (n : ℕ) (f : ℕ → Bool) → any n f ≡ not (eqb (bits n f) 0)
unfolding any bits
any-bits zero f = refl
any-bits (suc n) f = ap (λ b. b || f n) (any-bits n f) ∙ go (f n)
  where
    go : (b : Bool) → (not (eqb (bits n f) 0) || b) ≡ not (eqb (bits n f + cond b (2 ^ n) 0) 0)
    go true = or-true (not (eqb (bits n f) 0)) ∙ sym (ap not (ne_eqb (bits n f + 2 ^ n) 0 (λ e. omega (arith, pow_pos n))))
    go false = rw (or-false, add-zero)

-- A set of four, and equal sets.
pub bits-four : (f : ℕ → Bool) → cond (f 0) 1 0 + cond (f 1) 2 0 + cond (f 2) 4 0 + cond (f 3) 8 0 ≡ bits 4 f
unfolding bits
bits-four f = rw zero-add

-- The same where the first is known to fail: level 0 is not in the set.
pub upper-bits : (f : ℕ → Bool) → f 0 ≡ false → cond false 1 0 + cond (f 1) 2 0 + cond (f 2) 4 0 + cond (f 3) 8 0 ≡ bits 4 f
upper-bits f h = ap (λ b. cond b 1 0 + cond (f 1) 2 0 + cond (f 2) 4 0 + cond (f 3) 8 0) (sym h) ∙ bits-four f

pub bits-cong : (n : ℕ) (f g : ℕ → Bool) → ((t : ℕ) → t < n → f t ≡ g t) → bits n f ≡ bits n g
unfolding bits
bits-cong zero f g h = refl
bits-cong (suc n) f g h = rw (bits-cong n f g (λ t l. h t (omega arith)), h n (omega arith))

-- The least number that passes depends only on the tests.
pub least-cong : (n : ℕ) (f g : ℕ → Bool) → ((t : ℕ) → t < n → f t ≡ g t) → least n f ≡ least n g
unfolding least
least-cong zero f g h = refl
least-cong (suc n) f g h =
    rw (h 0 (omega arith), least-cong n (λ i. f (suc i)) (λ i. g (suc i)) (λ t l. h (suc t) (omega arith)))

-- The set of the numbers below k that are in a word, collected below n.
pub bits_below : (n k : ℕ) (f : ℕ → Bool) → k ≤ n → bits n (λ i. ltb i k && f i) ≡ bits k f
unfolding bits
bits_below zero k f h = let e : k ≡ 0 = omega arith in rw e
bits_below (suc n) k f h = go (eqb k (suc n)) refl (bits_below n k f)
  where
    go : (b : Bool) → eqb k (suc n) ≡ b → (k ≤ n → bits n (λ i. ltb i k && f i) ≡ bits k f) → bits n (λ i. ltb i k && f i) + cond (ltb n k && f n) (2 ^ n) 0 ≡ bits k f
    go true e fewer =
        rw (eqb-true k (suc n) e, lt-ltb n (suc n) (omega arith))
        (ap (λ x. x + cond (f n) (2 ^ n) 0) (bits-cong n (λ i. ltb i (suc n) && f i) f (λ i l. rw (lt-ltb i (suc n) (omega arith)))))
    go false e fewer =
        let ne : (k ≡ suc n → ⊥) = eqb-false k (suc n) e in
        rw (le-ltb n k (omega arith), add-zero) (fewer (omega arith))

-- The bits of a word below n.
pub bits_of : (n w : ℕ) → bits n (bit w) ≡ w % 2 ^ n
unfolding bits
bits_of zero w = sym (mod-one w)
bits_of (suc n) w =
    let e : n + 1 ≡ suc n = omega arith in
    rw (bits_of n w) (go (field n 1 w) (field_lt n 1 w) ∙ sym (field_end n 1 w) ∙ ap (λ k. w % 2 ^ k) e)
  where
    go : (x : ℕ) → x < 2 ^ 1 → w % 2 ^ n + cond (eqb x 1) (2 ^ n) 0 ≡ x * 2 ^ n + w % 2 ^ n
    go zero h = omega arith
    go (suc zero) h = omega arith
    go (suc (suc x)) h = absurd (omega arith)
