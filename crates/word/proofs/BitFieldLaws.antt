-- Laws of a layout that begins with fields of one bit each: packing goes on from field to field, and unpacking gives the bits. Assumes nothing.
use Rattle.std.proofs.Common.{◌≡◌, ℕ, zero, suc, ◌+◌, ◌-◌, ◌^◌, ◌<◌, ◌≤◌, List, [], ◌∷◌, length, get_or, drop, set, sym, refl, ap, ◌∙◌, le_of_suc-le-suc, not-suc-le-zero, add-one, arith, length-set, get_or-drop, get_or-set_other, get_or-set_same, ext_get_or, below_more}
use mathlib.Core.List.{tail}
use Rattle.word.specs.Field.{field, put, put_word}
use Rattle.word.specs.Layout.{Layout, pack, pack_from, reserved, unpack, unpack_from}
use Rattle.word.specs.RegisterLayouts.{bit_fields}
use Rattle.word.proofs.FieldLaws.{put-lt, put_whole}

tail-drop : (i : ℕ) (values : List ℕ) → tail (drop i values) ≡ drop (suc i) values
tail-drop zero [] = refl
tail-drop zero (value ∷ values) = refl
tail-drop (suc i) [] = refl
tail-drop (suc i) (value ∷ values) = tail-drop i values

value-at : (i : ℕ) (values : List ℕ) → get_or (drop i values) 0 0 ≡ get_or values i 0
value-at i values = get_or-drop i values 0 0 ∙ ap (λ (k : ℕ). get_or values k 0) (let e : i + 0 ≡ i = omega arith in e)

-- One field put, and packing goes on.
pack_one : (i m word : ℕ) (values : List ℕ) (more : Layout)
    → pack_from i (bit_fields (suc m) more) (drop i values) word ≡ pack_from (i + 1) (bit_fields m more) (drop (i + 1) values) (put i 1 word (get_or values i 0))
pack_one i m word values more =
    let t : tail (drop i values) ≡ drop (i + 1) values = tail-drop i values ∙ ap (λ (k : ℕ). drop k values) (sym (add-one i)) in
    λ j. pack_from (i + 1) (bit_fields m more) (t j) (put i 1 word (value-at i values j))

-- Packing on from field i of n with this word gives the word of all values.
pub record Packs (n : ℕ) (more : Layout) (values : List ℕ) (i word : ℕ) : Type 0 where
  pub on : pack_from i (bit_fields (n - i) more) (drop i values) word ≡ pack (bit_fields n more) values
  pub fits : word < 2 ^ 64

pub packs-first : (n : ℕ) (more : Layout) (values : List ℕ) → Packs n more values 0 0
packs-first n more values =
    record {
      on = ap (λ (m : ℕ). pack_from 0 (bit_fields m more) values 0) (let e : n - 0 ≡ n = omega arith in e);
      fits = omega arith;
    }

pub packs-next : {n : ℕ} {more : Layout} {values : List ℕ} {i word word' : ℕ} → Packs n more values i word → i < n → n ≤ 64
    → word' ≡ put_word i 1 word (get_or values i 0) → Packs n more values (i + 1) word'
packs-next {n} {more} {values} {i} {word} {word'} p h small e =
    let m : n - i ≡ suc (n - (i + 1)) = omega arith in
    let w : word' ≡ put i 1 word (get_or values i 0) = e ∙ put_whole i 1 word (get_or values i 0) p.fits (omega arith) in
    record {
      on = ap (pack_from (i + 1) (bit_fields (n - (i + 1)) more) (drop (i + 1) values)) w ∙ sym (pack_one i (n - (i + 1)) word values more)
          ∙ ap (λ (k : ℕ). pack_from i (bit_fields k more) (drop i values) word) (sym m) ∙ p.on;
      fits = rw w (put-lt i 1 64 word (get_or values i 0) p.fits (omega arith));
    }

pub packs-last : {n width : ℕ} {values : List ℕ} {i word : ℕ} → Packs n (reserved width ∷ []) values i word → n ≤ i
    → word ≡ pack (bit_fields n (reserved width ∷ [])) values
packs-last {n} {width} {values} {i} {word} p past =
    ap (λ (k : ℕ). pack_from i (bit_fields k (reserved width ∷ [])) (drop i values) word) (let e : 0 ≡ n - i = omega arith in e) ∙ p.on

-- Field k of the n is bit k.
bit_at : (offset n k word : ℕ) (more : Layout) → k < n
    → get_or (unpack_from offset (bit_fields n more) word) k 0 ≡ field (offset + k) 1 word
bit_at offset zero k word more h = absurd (not-suc-le-zero h)
bit_at offset (suc n) zero word more h = ap (λ (o : ℕ). field o 1 word) (let e : offset ≡ offset + 0 = omega arith in e)
bit_at offset (suc n) (suc k) word more h =
    bit_at (offset + 1) n k word more (le_of_suc-le-suc h) ∙ ap (λ (o : ℕ). field o 1 word) (let e : offset + 1 + k ≡ offset + suc k = omega arith in e)

bits-length : (offset n width word : ℕ) → length (unpack_from offset (bit_fields n (reserved width ∷ [])) word) ≡ n
bits-length offset zero width word = refl
bits-length offset (suc n) width word = ap suc (bits-length (offset + 1) n width word)

-- The first i of n values are the bits of a word; all of them are what unpacking gives.
pub record Bits (n word i : ℕ) (values : List ℕ) : Type 0 where
  pub many : length values ≡ n
  pub bits : (k : ℕ) → k < i → get_or values k 0 ≡ field k 1 word

pub bits-next : {n word i : ℕ} {values : List ℕ} {value : ℕ} → Bits n word i values → i < n → value ≡ field i 1 word → Bits n word (i + 1) (set values i value)
bits-next {n} {word} {i} {values} {value} b h e =
    record {
      many = length-set values i value ∙ b.many;
      bits = below_more _ _ (λ k low. get_or-set_other values i k value 0 (λ same. omega (arith, same)) ∙ b.bits k low) (get_or-set_same values i value 0 (omega (arith, b.many)) ∙ e);
    }

pub bits-unpacked : (width : ℕ) {n word i : ℕ} {values : List ℕ} → Bits n word i values → n ≤ i → values ≡ unpack (bit_fields n (reserved width ∷ [])) word
bits-unpacked width {n} {word} {i} {values} b past =
    ext_get_or 0 values _ (b.many ∙ sym (bits-length 0 n width word))
    (λ k low. let small : k < n = rw b.many at low in b.bits k (omega arith) ∙ ap (λ (o : ℕ). field o 1 word) (let z : k ≡ 0 + k = omega arith in z) ∙ sym (bit_at 0 n k word (reserved width ∷ []) small))
