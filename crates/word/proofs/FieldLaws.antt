-- The laws of a field, for every offset and width: what was put is taken, and every other field stays.
-- In the proofs `o` and `k` are a field's offset and width, `o'` and `k'` those of another, `w` a word and `x` a value.
-- Assumes nothing.
use Rattle.std.proofs.Common.{◌≡◌, ℕ, ◌+◌, ◌-◌, ◌*◌, ◌/◌, ◌%◌, ◌^◌, ◌<◌, ◌≤◌, Bool, true, false, eqb, ltb, sym, refl, ap, ◌∙◌, lt_of_lt_of_le, add_assoc, mod-lt, mod-eq_of_lt, mul_assoc, mul_comm, add-mul, add_comm, div-add-mod', arith, pow_pos, pow_mono, pow-add, shr-shr, shr_lt, ltb-false, ltb-true}
use native.Mathlib.Nat.{mod-mod, zero-mod, div-eq_of_lt}
use lib.Arith.{digits_lt}
use lib.Pow.{high, low, mod-mod-pow, mod-pow-add, field as field-low}
use Rattle.word.specs.Field.{field, put, put_word, bit}

-- A field is below 2 ^ width.
pub field_lt : (offset width word : ℕ) → field offset width word < 2 ^ width
field_lt o k w = mod-lt (w / 2 ^ o) (pow_pos k)

-- Past a word's end a field is 0.
pub field_past : (offset width word : ℕ) → word < 2 ^ offset → field offset width word ≡ 0
field_past o k w h = ap (λ (n : ℕ). n % 2 ^ k) (div-eq_of_lt h) ∙ zero-mod (2 ^ k)

-- A field depends only on the bits below its end.
pub field-mod : (offset width bits word : ℕ) → offset + width ≤ bits
    → field offset width (word % 2 ^ bits) ≡ field offset width word
field-mod o k n w h =
    let e : (n - (k + o)) + (k + o) ≡ n = omega arith in
    sym (field-low (w % 2 ^ n) k o) ∙ ap (λ (v : ℕ). v / 2 ^ o) (rw (← e, mod-mod-pow)) ∙ field-low w k o

-- A field within a field is a field of the word.
pub field_in : (offset width offset' width' word : ℕ) → offset' + width' ≤ width
    → field (offset + offset') width' word ≡ field offset' width' (field offset width word)
field_in o k o' k' w h =
    ap (λ (n : ℕ). n % 2 ^ k') (sym (shr-shr w o o')) ∙ sym (field-mod o' k' k (w / 2 ^ o) h)

-- The bits below a field's end are the field and the bits below it.
pub field_end : (offset width word : ℕ)
    → word % 2 ^ (offset + width) ≡ field offset width word * 2 ^ offset + word % 2 ^ offset
field_end o k w = rw add_comm (mod-pow-add w k o)

-- Putting what is there changes nothing.
pub put_same : (offset width word : ℕ) → put offset width word (field offset width word) ≡ word
put_same o k w = rw (mod-mod, add_assoc, ← field_end) (div-add-mod' w (2 ^ (o + k)))

-- So a field at its place is at most its word, and can be swapped for another.
pub field-le : (offset width word : ℕ) → field offset width word * 2 ^ offset ≤ word
field-le o k w = omega (arith, rw mod-mod at (put_same o k w))

pub put-swap : (offset width word value : ℕ)
    → word - field offset width word * 2 ^ offset + value % 2 ^ width * 2 ^ offset ≡ put offset width word value
put-swap o k w x = omega (arith, rw mod-mod at (put_same o k w))

-- The word that was put, cut where the field starts.
put-at-start : (offset width word value : ℕ)
    → put offset width word value ≡ (word / 2 ^ (offset + width) * 2 ^ width + value % 2 ^ width) * 2 ^ offset + word % 2 ^ offset
put-at-start o k w x =
    ap (λ (n : ℕ). n + w % 2 ^ o)
    (ap (λ (n : ℕ). n + x % 2 ^ k * 2 ^ o) (rw (pow-add 2 o k, mul_comm (2 ^ o) (2 ^ k), mul_assoc))
    ∙ sym (add-mul (w / 2 ^ (o + k) * 2 ^ k) (x % 2 ^ k) (2 ^ o)))

-- What lies below the field's end in it.
below_end : (offset width word value : ℕ) → value % 2 ^ width * 2 ^ offset + word % 2 ^ offset < 2 ^ (offset + width)
below_end o k w x =
    rw (pow-add 2 o k, mul_comm (2 ^ o) (2 ^ k)) (digits_lt (mod-lt x (pow_pos k)) (mod-lt w (pow_pos o)))

-- What was put is taken.
pub take_put : (offset width word value : ℕ) → field offset width (put offset width word value) ≡ value % 2 ^ width
take_put o k w x = rw (put-at-start, high _ o (mod-lt w (pow_pos o)), low _ k (mod-lt x (pow_pos k)))

-- So is each field within what was put.
pub take-put-in : (offset width offset' width' word value : ℕ) → offset' + width' ≤ width
    → field (offset + offset') width' (put offset width word value) ≡ field offset' width' value
take-put-in o k o' k' w x h = field_in o k o' k' _ h ∙ ap (field o' k') (take_put o k w x) ∙ field-mod o' k' k x h

-- The bits below the field stay.
pub put-mod : (offset width word value : ℕ) → put offset width word value % 2 ^ offset ≡ word % 2 ^ offset
put-mod o k w x = rw put-at-start (low _ o (mod-lt w (pow_pos o)))

-- So does a field that ends where this one starts, or below.
pub take-put-below : (offset width offset' width' word value : ℕ) → offset' + width' ≤ offset
    → field offset' width' (put offset width word value) ≡ field offset' width' word
take-put-below o k o' k' w x h =
    sym (field-mod o' k' o _ h) ∙ ap (field o' k') (put-mod o k w x) ∙ field-mod o' k' o w h

-- The bits above the field stay.
pub put-shift : (offset width word value : ℕ)
    → put offset width word value / 2 ^ (offset + width) ≡ word / 2 ^ (offset + width)
put-shift o k w x = rw add_assoc (high _ (o + k) (below_end o k w x))

-- So does a field that starts where this one ends, or above.
pub take-put-above : (offset width offset' width' word value : ℕ) → offset + width ≤ offset'
    → field offset' width' (put offset width word value) ≡ field offset' width' word
take-put-above o k o' k' w x h =
    let d = o' - (o + k) in
    let e : o + k + d ≡ o' = omega arith in
    rw (← e, ← shr-shr (put o k w x) (o + k) d, ← shr-shr w (o + k) d, put-shift)

-- A word of n bits stays one.
pub put-lt : (offset width bits word value : ℕ) → word < 2 ^ bits → offset + width ≤ bits
    → put offset width word value < 2 ^ bits
put-lt o k n w x h l =
    let d = n - (o + k) in
    let e : d + (o + k) ≡ n = omega arith in
    rw (← e, pow-add 2 d (o + k), add_assoc) (digits_lt (shr_lt d (o + k) (rw e h)) (below_end o k w x))

-- In 64 bits, a field past bit 63 changes nothing.
pub put-past : (offset width word value : ℕ) → word < 2 ^ 64 → 64 ≤ offset → put_word offset width word value ≡ word
put-past o k w x h l =
    let e : (o - 64) + 64 ≡ o = omega arith in
    rw (← mod-mod-pow (put o k w x) (o - 64) 64, e, put-mod, mod-eq_of_lt (lt_of_lt_of_le h (pow_mono l))) (mod-eq_of_lt h)

-- In 64 bits, a field that ends by bit 64 is put whole.
pub put_whole : (offset width word value : ℕ) → word < 2 ^ 64 → offset + width ≤ 64
    → put_word offset width word value ≡ put offset width word value
put_whole o k w x h l = mod-eq_of_lt (put-lt o k 64 w x h l)

-- The test that `bit` makes.
abbrev is_one : ℕ → Bool
is_one n = eqb n 1

-- A bit of the field is the value's.
pub bit-put-in : (offset width index word value : ℕ) → index < width
    → bit (put offset width word value) (offset + index) ≡ bit value index
bit-put-in o k i w x h = ap is_one (take-put-in o k i 1 w x (omega arith))

-- Every bit below the field stays, and every bit above it.
pub bit-put-below : (offset width index word value : ℕ) → index < offset
    → bit (put offset width word value) index ≡ bit word index
bit-put-below o k i w x h = ap is_one (take-put-below o k i 1 w x (omega arith))

pub bit-put-above : (offset width index word value : ℕ) → offset + width ≤ index
    → bit (put offset width word value) index ≡ bit word index
bit-put-above o k i w x h = ap is_one (take-put-above o k i 1 w x h)

-- A single bit: it is the value's low bit, and every other stays.
pub bit-put-here : (index word value : ℕ) → bit (put index 1 word value) index ≡ bit value 0
bit-put-here t w x = let e : t + 0 ≡ t = omega arith in ap (bit (put t 1 w x)) (sym e) ∙ bit-put-in t 1 0 w x (omega arith)

pub bit-put-other : (index other word value : ℕ) → (other ≡ index → ⊥)
    → bit (put index 1 word value) other ≡ bit word other
bit-put-other t i w x n = go (ltb i t) refl
  where
    go : (b : Bool) → ltb i t ≡ b → bit (put t 1 w x) i ≡ bit w i
    go true e = bit-put-below t 1 i w x (ltb-true i t e)
    go false e = bit-put-above t 1 i w x (omega (arith, ltb-false i t e, n))
