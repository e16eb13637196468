-- The laws of a layout, for every layout: what was packed is unpacked, and a word is packed again as it was exactly when its
-- reserved fields are 0. Each is proved from every offset first, and then stated from bit 0. The proofs have the
-- letters of FieldLaws.antt, and `xs` for values. Assumes nothing.
use Rattle.std.proofs.Common.{◌≡◌, ℕ, ◌+◌, ◌%◌, ◌^◌, ◌<◌, ◌≤◌, Bool, true, false, ◌&&◌, eqb, ◌↔◌, List, [], ◌∷◌, get_or, refl, ◌∙◌, le_refl, lt_of_lt_of_le, le-add_right, add-zero, add_assoc, mod-lt, mod-eq_of_lt, zero-add, zero-mul, arith, pow_pos, pow_mono, eqb-true}
use mathlib.Core.Bool.{false≢true}
use mathlib.Core.List.{tail}
use native.Mathlib.Nat.{mod-mod, mod-one, div-eq_of_lt}
use Rattle.word.specs.Field.{field, put}
use Rattle.word.specs.Layout.{Layout, used, reserved, width_of, unpack_from, pack_from, reserved_clear_from, low_bits}
use Rattle.word.specs.Layout.{unpack, pack, reserved_clear}
use Rattle.word.proofs.FieldLaws.{field_past, field_end, take_put, take-put-below, put-lt}

-- A number of o bits is one of more.
wider : (offset width : ℕ) {word : ℕ} → word < 2 ^ offset → word < 2 ^ (offset + width)
wider o k h = lt_of_lt_of_le h (pow_mono (le-add_right o k))

-- Packing from `o` up leaves every field below alone.
pack-keeps : (offset : ℕ) (layout : Layout) (values : List ℕ) (word offset' width' : ℕ) → offset' + width' ≤ offset
    → field offset' width' (pack_from offset layout values word) ≡ field offset' width' word
pack-keeps o [] xs w o' k' h = refl
pack-keeps o (used k ∷ layout) xs w o' k' h =
    pack-keeps (o + k) layout (tail xs) _ o' k' (omega arith) ∙ take-put-below o k o' k' w _ h
pack-keeps o (reserved k ∷ layout) xs w o' k' h = pack-keeps (o + k) layout xs w o' k' (omega arith)

-- Each used field of a packed word is its value's low bits.
unpack-pack-from : (offset : ℕ) (layout : Layout) (values : List ℕ) (word : ℕ)
    → unpack_from offset layout (pack_from offset layout values word) ≡ low_bits layout values
unpack-pack-from o [] xs w = refl
unpack-pack-from o (used k ∷ layout) xs w =
    rw (pack-keeps (o + k) layout (tail xs) (put o k w (get_or xs 0 0)) o k (le_refl _), take_put)
    (rw (unpack-pack-from (o + k) layout (tail xs) _))
unpack-pack-from o (reserved k ∷ layout) xs w = unpack-pack-from (o + k) layout xs w

-- A packed word has no bit past its layout, and its reserved fields are 0.
pack-lt-from : (offset : ℕ) (layout : Layout) (values : List ℕ) (word : ℕ) → word < 2 ^ offset
    → pack_from offset layout values word < 2 ^ (offset + width_of layout)
pack-lt-from o [] xs w h = rw add-zero h
pack-lt-from o (used k ∷ layout) xs w h =
    rw (← add_assoc) (pack-lt-from (o + k) layout (tail xs) _ (put-lt o k (o + k) w _ (wider o k h) (le_refl _)))
pack-lt-from o (reserved k ∷ layout) xs w h = rw (← add_assoc) (pack-lt-from (o + k) layout xs w (wider o k h))

pack-clear-from : (offset : ℕ) (layout : Layout) (values : List ℕ) (word : ℕ) → word < 2 ^ offset
    → reserved_clear_from offset layout (pack_from offset layout values word) ≡ true
pack-clear-from o [] xs w h = refl
pack-clear-from o (used k ∷ layout) xs w h =
    pack-clear-from (o + k) layout (tail xs) _ (put-lt o k (o + k) w _ (wider o k h) (le_refl _))
pack-clear-from o (reserved k ∷ layout) xs w h =
    rw (pack-keeps (o + k) layout xs w o k (le_refl _), field_past o k w h) (pack-clear-from (o + k) layout xs w (wider o k h))

-- The bits below a field's end, put together from those below its start.
put-field : (offset width word : ℕ)
    → put offset width (word % 2 ^ offset) (field offset width word) ≡ word % 2 ^ (offset + width)
put-field o k w =
    rw (field_end, div-eq_of_lt (wider o k (mod-lt w (pow_pos o))), zero-mul, zero-add, mod-mod, mod-mod)

-- Two tests that hold together hold.
and_parts : (first second : Bool) → (first && second) ≡ true → (first ≡ true) × (second ≡ true)
and_parts true b h = (refl, h)
and_parts false b h = absurd (false≢true h)

-- Where the reserved fields are 0, the used ones are the whole word up to the layout's end.
pack-unpack-from : (offset : ℕ) (layout : Layout) (word : ℕ) → reserved_clear_from offset layout word ≡ true
    → pack_from offset layout (unpack_from offset layout word) (word % 2 ^ offset) ≡ word % 2 ^ (offset + width_of layout)
pack-unpack-from o [] w h = rw add-zero
pack-unpack-from o (used k ∷ layout) w h = rw (put-field, ← add_assoc) (pack-unpack-from (o + k) layout w h)
pack-unpack-from o (reserved k ∷ layout) w h =
    let clear = and_parts (eqb (field o k w) 0) _ h in
    let same : w % 2 ^ (o + k) ≡ w % 2 ^ o = rw (field_end, eqb-true (field o k w) 0 clear.0, zero-mul, zero-add) in
    rw (← same, ← add_assoc) (pack-unpack-from (o + k) layout w clear.1)

-- Unpacking what was packed gives each value modulo 2 ^ width.
pub unpack-pack : (layout : Layout) (values : List ℕ) → unpack layout (pack layout values) ≡ low_bits layout values
unpack-pack layout xs = unpack-pack-from 0 layout xs 0

-- A packed word is as wide as its layout, and its reserved fields are 0.
pub pack-lt : (layout : Layout) (values : List ℕ) → pack layout values < 2 ^ width_of layout
pack-lt layout xs = rw zero-add at (pack-lt-from 0 layout xs 0 (pow_pos 0))

pub pack-clear : (layout : Layout) (values : List ℕ) → reserved_clear layout (pack layout values) ≡ true
pack-clear layout xs = pack-clear-from 0 layout xs 0 (pow_pos 0)

-- Packing what was unpacked gives the word back exactly when its reserved fields are 0.
pub pack-unpack : (layout : Layout) (word : ℕ) → word < 2 ^ width_of layout
    → (pack layout (unpack layout word) ≡ word) ↔ (reserved_clear layout word ≡ true)
pack-unpack layout w h = (
  λ e. rw e at (pack-clear layout (unpack layout w)),
  λ c. rw (mod-one, zero-add, mod-eq_of_lt h) at (pack-unpack-from 0 layout w c),
)
