-- A write changes a masked bit where the bits that differ and the mask have one in common. Assumes nothing.
use mathlib.Core.Path.{◌≡◌, refl, sym, ap, ◌∙◌}
use mathlib.Core.Bool.{Bool, true, false, not, xor, beq, ◌&&◌}
use Prim.Native.Nat.{ℕ, zero, suc, ◌/◌, ◌^◌, ◌<◌}
use native.Mathlib.Nat.{lt_of_le_of_lt}
use native.Mathlib.Omega.{arith}
use lib.Bits.{bit_and, bit_xor, and_shr, xor_shr, and_mod, xor_mod, and_le_r}
use lib.Dec.{eqb}
use lib.Pow.{pow_pos}
use borrow.Author.Tests.{eqb-true, eqb-false}
use Rattle.word.specs.Field.{bit, field}
use Rattle.word.proofs.FieldLaws.{field_lt, field_past}
use Rattle.model.specs.Bounded.{any}
use Rattle.model.specs.Entry.{top_bit}
use Rattle.model.specs.Watching.{changes_masked}
use Rattle.model.proofs.BoundedLaws.{any-cong, any-has, any_none}
use Rattle.model.proofs.TopVectors.{top-bit, top-bit-low}

-- The two operations on one bit.
and_one : (a b : ℕ) → a < 2 → b < 2 → eqb (bit_and a b) 1 ≡ (eqb a 1 && eqb b 1)
and_one zero b h k = refl
and_one (suc zero) zero h k = refl
and_one (suc zero) (suc zero) h k = refl
and_one (suc zero) (suc (suc b)) h k = absurd (omega arith)
and_one (suc (suc a)) b h k = absurd (omega arith)

xor-one : (a b : ℕ) → a < 2 → b < 2 → eqb (bit_xor a b) 1 ≡ xor (eqb a 1) (eqb b 1)
unfolding xor
xor-one zero b h k = go (eqb b 1)
  where
    go : (t : Bool) → t ≡ not (beq false t)
    go true = refl
    go false = refl
xor-one (suc zero) zero h k = refl
xor-one (suc zero) (suc zero) h k = refl
xor-one (suc zero) (suc (suc b)) h k = absurd (omega arith)
xor-one (suc (suc a)) b h k = absurd (omega arith)

-- And on each bit of two words.
bit-and : (a b i : ℕ) → bit (bit_and a b) i ≡ (bit a i && bit b i)
bit-and a b i = rw (and_shr a b i, and_mod (a / 2 ^ i) (b / 2 ^ i) 1) (and_one (field i 1 a) (field i 1 b) (field_lt i 1 a) (field_lt i 1 b))

bit-xor : (a b i : ℕ) → bit (bit_xor a b) i ≡ xor (bit a i) (bit b i)
bit-xor a b i = rw (xor_shr a b i, xor_mod (a / 2 ^ i) (b / 2 ^ i) 1) (xor-one (field i 1 a) (field i 1 b) (field_lt i 1 a) (field_lt i 1 b))

-- A word that is not 0 has a bit set.
some-bit : (word : ℕ) → word < 2 ^ 64 → any 64 (bit word) ≡ not (eqb word 0)
some-bit word h = go (eqb word 0) refl
  where
    go : (b : Bool) → eqb word 0 ≡ b → any 64 (bit word) ≡ not b
    go true e = any_none 64 (bit word) (λ i l. ap (λ n. eqb n 1) (field_past i 1 word (rw (eqb-true word 0 e) (pow_pos i))))
    go false e = let d : (word ≡ 0 → ⊥) = eqb-false word 0 e in any-has 64 (bit word) (top_bit word) (top-bit-low word) (top-bit word (omega arith) h).set

pub masked : (mask old new : ℕ) → mask < 2 ^ 64 → not (eqb (bit_and (bit_xor old new) mask) 0) ≡ changes_masked mask old new
unfolding changes_masked
masked mask old new h =
    sym (some-bit (bit_and (bit_xor old new) mask) (lt_of_le_of_lt (and_le_r (bit_xor old new) mask) h))
    ∙ any-cong 64 _ _ (λ i l. bit-and (bit_xor old new) mask i ∙ ap (λ b. b && bit mask i) (bit-xor old new i) ∙ swap (xor (bit old i) (bit new i)) (bit mask i))
  where
    swap : (a b : Bool) → (a && b) ≡ (b && a)
    swap true true = refl
    swap true false = refl
    swap false true = refl
    swap false false = refl
