-- The highest ready vector by words and bits (02, request 4): the top set bit of the top non-zero word has the highest pending vector, so it alone has to
-- be asked whether it is ready. Assumes nothing.
use mathlib.Core.Path.{◌≡◌, refl, sym, ap, ◌∙◌}
use mathlib.Core.Bool.{Bool, true, false, not}
use mathlib.Core.List.{List}
use Prim.Native.Nat.{ℕ, suc, ◌+◌, ◌*◌, ◌/◌, ◌%◌, ◌^◌, ◌<◌}
use native.Mathlib.Nat.{div-eq_of_lt-le, lt_of_lt_of_le, pow-suc}
use native.Mathlib.Omega.{arith}
use lib.Count.{count_leading_zeros, leading_top}
use lib.Dec.{ltb, eqb}
use lib.Pow.{pow_pos, pow_mono}
use borrow.Author.Tests.{eqb-true, eqb-false, le-ltb, ltb-true, ltb-false, not-true, not-false}
use Rattle.word.proofs.FieldLaws.{field_past}
use Rattle.word.specs.Field.{bit}
use Rattle.model.specs.Arrays.{number_at}
use Rattle.model.specs.Claims.{TopVector}
use Rattle.model.specs.Entry.{is_ready, highest_ready, top_word, top_bit, top_vector}
use Rattle.model.specs.State.{Context, is_pending}
use Rattle.model.proofs.Bools.{not-and}
use Rattle.model.proofs.BoundedLaws.{highest-found, highest-le, highest-is, highest-none, highest-above}

-- The bits of a word that is not 0, from its leading zeros: the first below them is set, and none above it is.
pub record TopSet (word index : ℕ) : Type 0 where
  pub counted : count_leading_zeros 64 word + suc index ≡ 64
  pub set : bit word index ≡ true
  pub above : (i : ℕ) → index < i → bit word i ≡ false

top_set : (word : ℕ) → 0 < word → word < 2 ^ 64 → (index : ℕ) × TopSet word index
top_set word p h =
    let t = leading_top 64 word p h in
    let one : word / 2 ^ t.0 ≡ 1 = div-eq_of_lt-le (2 ^ t.0) (omega (arith, t.2)) (omega (arith, t.3, pow-suc 2 t.0)) in
    (t.0, record { counted = t.1; set = rw one; above = λ i l. ap (λ n. eqb n 1) (field_past i 1 word (lt_of_lt_of_le t.3 (pow_mono l))) })

-- So the top bit is the one below the leading zeros.
pub top-bit : (word : ℕ) → 0 < word → word < 2 ^ 64 → TopSet word (top_bit word)
unfolding top_bit
top-bit word p h =
    let t = top_set word p h in
    let here : top_bit word ≡ t.0 = highest-is 64 t.0 (bit word) (omega (arith, t.1.counted)) t.1.set (λ k l b. t.1.above k l) in
    rw here t.1

-- Nothing is set in 0.
bit-zero : (i : ℕ) → bit 0 i ≡ false
bit-zero i = ap (λ n. eqb n 1) (field_past i 1 0 (pow_pos i))

pub top-bit-zero : top_bit 0 ≡ 0
unfolding top_bit
top-bit-zero = highest-none 64 (bit 0) (λ k l. bit-zero k)

-- There are 64 bits, four words and 256 vectors.
pub top-bit-low : (word : ℕ) → top_bit word < 64
unfolding top_bit
top-bit-low word = omega (arith, highest-le 63 (bit word))

pub top-word-low : (words : List ℕ) → top_word words < 4
unfolding top_word
top-word-low words = omega (arith, highest-le 3 (λ i. not (eqb (number_at 4 words i) 0)))

pub top-vector-low : (words : List ℕ) → top_vector words < 256
unfolding top_vector
top-vector-low words = omega (arith, top-word-low words, top-bit-low (number_at 4 words (top_word words)))

module _ (c : Context) where
  abbrev word : ℕ → ℕ
  word i = number_at 4 c.pending i

  abbrev top : ℕ
  top = top_word c.pending

  -- A word above the top word is 0, and so is what lies past the four.
  word-above : (i : ℕ) → top < i → word i ≡ 0
  unfolding top_word number_at
  word-above i a = go (ltb i 4) refl
    where
      go : (b : Bool) → ltb i 4 ≡ b → word i ≡ 0
      go true b = eqb-true (word i) 0 (not-false _ (highest-above 4 (λ k. not (eqb (word k) 0)) i a (ltb-true i 4 b)))
      go false b = rw b

  -- No vector above that of the top bit is pending.
  none_above : (n : ℕ) → top_vector c.pending < n → is_pending c n ≡ false
  unfolding top_vector is_pending top_bit
  none_above n l = go (ltb top (n / 64)) refl
    where
      go : (b : Bool) → ltb top (n / 64) ≡ b → bit (word (n / 64)) (n % 64) ≡ false
      go true a = rw (word-above (n / 64) (ltb-true top (n / 64) a)) (bit-zero (n % 64))
      go false a =
          let same : n / 64 ≡ top = omega (arith, ltb-false top (n / 64) a) in
          rw same (highest-above 64 (bit (word top)) (n % 64) (omega arith) (omega arith))

  -- The vector of the top bit is pending where the top word is not 0.
  top-pending : ((i : ℕ) → i < 4 → word i < 2 ^ 64) → (word top ≡ 0 → ⊥) → is_pending c (top_vector c.pending) ≡ true
  unfolding top_vector is_pending
  top-pending h ne =
      let t = top-bit (word top) (omega arith) (h top (top-word-low c.pending)) in
      let b = top_bit (word top) in
      let above : (64 * top + b) / 64 ≡ top = omega (arith, top-bit-low (word top)) in
      let below : (64 * top + b) % 64 ≡ b = omega (arith, top-bit-low (word top)) in
      rw (above, below) t.set

  -- Where the top word is 0, all are, and the vector is 0.
  top-none : word top ≡ 0 → top_vector c.pending ≡ 0
  unfolding top_vector
  top-none z = go (eqb top 0) refl
    where
      go : (b : Bool) → eqb top 0 ≡ b → 64 * top + top_bit (word top) ≡ 0
      go true e = omega (arith, eqb-true top 0 e, ap top_bit z, top-bit-zero)
      go false e =
          let f : not (eqb (word top) 0) ≡ true = unfold top_word in (highest-found 4 (λ i. not (eqb (word i) 0)) e).1 in
          absurd (eqb-false (word top) 0 (not-true _ f) z)

  -- So it is the highest ready one, if it is ready.
  top_ready : ((i : ℕ) → i < 4 → word i < 2 ^ 64) → is_ready c (top_vector c.pending) ≡ true → highest_ready c ≡ top_vector c.pending
  unfolding highest_ready is_ready
  top_ready h e =
      let class : c.tpr < top_vector c.pending / 16 = ltb-true c.tpr (top_vector c.pending / 16) e in
      let some : (word top ≡ 0 → ⊥) = λ z. omega (arith, class, top-none z) in
      highest-is 256 (top_vector c.pending) _ (top-vector-low c.pending) (rw (top-pending h some, e)) (λ k l b. rw (none_above k l))

  -- And if not, no pending vector is, since none is higher.
  top-unready : is_ready c (top_vector c.pending) ≡ false → (n : ℕ) → is_pending c n ≡ true → is_ready c n ≡ false
  unfolding is_ready
  top-unready e n p = go (ltb (top_vector c.pending) n) refl
    where
      go : (b : Bool) → ltb (top_vector c.pending) n ≡ b → ltb c.tpr (n / 16) ≡ false
      go true l = absurd (eqb-false 0 0 (sym p ∙ none_above n (ltb-true (top_vector c.pending) n l)) refl)
      go false l = le-ltb c.tpr (n / 16) (omega (arith, ltb-false c.tpr (top_vector c.pending / 16) e, ltb-false (top_vector c.pending) n l))

pub top-vector : TopVector
top-vector c h = record { ready = top_ready c h; none = top-unready c }

-- Where no pending vector is ready, the search finds none.
pub none-ready : (c : Context) → ((n : ℕ) → is_pending c n ≡ true → is_ready c n ≡ false) → highest_ready c ≡ 0
unfolding highest_ready
none-ready c h = highest-none 256 _ (λ k l. not-and (is_pending c k) (is_ready c k) (h k))
