-- Laws of the fields of the registers of document 001 by their numbers: which row of the code's table a field has, that the field at
-- its position is what unpacking the word gives, and that putting there changes that field only. All are over any layouts, so a register
-- more changes none of them. The proofs have the letters of FieldLaws.antt, and `n` for a field's number. Assumes nothing.
use Rattle.std.proofs.Common.{◌≡◌, ℕ, zero, suc, ◌+◌, ◌-◌, ◌%◌, ◌^◌, ◌<◌, ◌≤◌, max, List, [], ◌∷◌, ◌++◌, length, get_or, set, sym, refl, ap, ◌∙◌, append_assoc, le_refl, le_of_suc-le-suc, not-suc-le-zero, add-one, arith, length-append, get_or-append-add}
use native.Mathlib.Nat.{mod-mod, mod-one}
use lib.ListN.{get_or-append, get_or-eq_default}
use Rattle.word.proofs.FieldLaws.{take_put, take-put-above, take-put-below}
use Rattle.word.specs.Field.{field, field_at, put, put_at}
use Rattle.word.specs.Layout.{Layout, low_bits, reserved, unpack_from, used, width_of}
use Rattle.word.specs.RegisterFields.{OneChanged, nowhere, position_from, position_of, positions_from}
use Rattle.word.specs.RegisterLayouts.{layout_of, layouts}
use Rattle.word.specs.declared.field.FieldPosition.{FieldPosition}

-- The table that layouts ask for: the positions of each, one layout after the other, and the row at which each begins, from `first` on.
abbrev pub rows_of : List Layout → List FieldPosition
rows_of [] = []
rows_of (layout ∷ all) = positions_from 0 layout ++ rows_of all

abbrev pub first_rows : ℕ → List Layout → List ℕ
first_rows first [] = first ∷ []
first_rows first (layout ∷ all) = first ∷ first_rows (first + length (positions_from 0 layout)) all

-- A register has as many rows as used fields.
first-row : (first : ℕ) (all : List Layout) → get_or (first_rows first all) 0 0 ≡ first
first-row first [] = refl
first-row first (layout ∷ all) = refl

next_row : (first : ℕ) (all : List Layout) (register : ℕ) → register < length all
    → get_or (first_rows first all) (suc register) 0
    ≡ get_or (first_rows first all) register 0 + length (positions_from 0 (get_or all register []))
next_row first [] register h = absurd (not-suc-le-zero h)
next_row first (layout ∷ all) zero h = first-row _ all
next_row first (layout ∷ all) (suc register) h =
    next_row (first + length (positions_from 0 layout)) all register (le_of_suc-le-suc h)

pub rows-of-register : (register : ℕ) → register < length layouts
    → get_or (first_rows 0 layouts) (register + 1) 0
    ≡ get_or (first_rows 0 layouts) register 0 + length (positions_from 0 (layout_of register))
rows-of-register register h = rw add-one (next_row 0 layouts register h)

-- A field's row is in the table and has its position, also after other rows.
row-after : (before : List FieldPosition) (all : List Layout) (register number : ℕ)
    → number < length (positions_from 0 (get_or all register []))
    → let row = get_or (first_rows (length before) all) register 0 + number in
    (row < length (before ++ rows_of all)) × (get_or (before ++ rows_of all) row nowhere ≡ position_from 0 (get_or all register []) number)
row-after before [] register n h = absurd (not-suc-le-zero h)
row-after before (layout ∷ all) zero n h = (
  simp length-append (omega arith),
  get_or-append-add before _ n nowhere ∙ get_or-append (positions_from 0 layout) (rows_of all) nowhere n h,
)
row-after before (layout ∷ all) (suc register) n h =
    rw (← append_assoc, ← length-append) (row-after (before ++ positions_from 0 layout) all register n h)

pub row_at : (register number : ℕ) → register < length layouts
    → number < get_or (first_rows 0 layouts) (register + 1) 0 - get_or (first_rows 0 layouts) register 0
    → let row = get_or (first_rows 0 layouts) register 0 + number in
    (row < length (rows_of layouts)) × (get_or (rows_of layouts) row nowhere ≡ position_of register number)
row_at register n h l = row-after [] layouts register n (omega (arith, rows-of-register register h))

-- Past the last field, and past the last register, there is no position.
pub field-past-last : (register number : ℕ) → length (positions_from 0 (layout_of register)) ≤ number
    → nowhere ≡ position_of register number
field-past-last register n past = sym (get_or-eq_default (positions_from 0 (layout_of register)) nowhere past)

pub register-past-last : (register number : ℕ) → length layouts ≤ register → nowhere ≡ position_of register number
register-past-last register n past = ap (λ (layout : Layout). position_from 0 layout n) (sym (get_or-eq_default layouts [] past))

-- What stands at a field's position is what unpacking gives.
pub field-placed : (offset : ℕ) (layout : Layout) (number word : ℕ)
    → field_at (position_from offset layout number) word ≡ get_or (unpack_from offset layout word) number 0
field-placed offset [] n w = mod-one _
field-placed offset (used width ∷ layout) zero w = refl
field-placed offset (used width ∷ layout) (suc n) w = field-placed (offset + width) layout n w
field-placed offset (reserved width ∷ layout) n w = field-placed (offset + width) layout n w

-- Putting at no bits changes nothing, and putting at a field leaves what lies below its layout.
put-nowhere : (word value : ℕ) → put 0 0 word value ≡ word
put-nowhere w x = omega arith

below-kept : (offset' width' offset : ℕ) (layout : Layout) (number word value : ℕ) → offset' + width' ≤ offset
    → field offset' width' (put_at (position_from offset layout number) word value) ≡ field offset' width' word
below-kept o k offset [] n w x h = ap (field o k) (put-nowhere w x)
below-kept o k offset (used width ∷ layout) zero w x h = take-put-below offset width o k w x h
below-kept o k offset (used width ∷ layout) (suc n) w x h = below-kept o k (offset + width) layout n w x (omega arith)
below-kept o k offset (reserved width ∷ layout) n w x h = below-kept o k (offset + width) layout n w x (omega arith)

-- The fields above one that is put stay, and the low bits of fields are the fields.
above_kept : (offset' width' offset : ℕ) (layout : Layout) (word value : ℕ) → offset' + width' ≤ offset
    → unpack_from offset layout (put offset' width' word value) ≡ unpack_from offset layout word
above_kept o k offset [] w x h = refl
above_kept o k offset (used width ∷ layout) w x h =
    rw (take-put-above o k offset width w x h, above_kept o k (offset + width) layout w x (omega arith))
above_kept o k offset (reserved width ∷ layout) w x h = above_kept o k (offset + width) layout w x (omega arith)

low-fields : (offset : ℕ) (layout : Layout) (word : ℕ)
    → unpack_from offset layout word ≡ low_bits layout (unpack_from offset layout word)
low-fields offset [] w = refl
low-fields offset (used width ∷ layout) w =
    rw mod-mod (ap (λ (l : List ℕ). field offset width w ∷ l) (low-fields (offset + width) layout w))
low-fields offset (reserved width ∷ layout) w = low-fields (offset + width) layout w

one_from : (offset : ℕ) (layout : Layout) (number word value : ℕ)
    → unpack_from offset layout (put_at (position_from offset layout number) word value) ≡ low_bits layout (set (unpack_from offset layout word) number value)
one_from offset [] n w x = refl
one_from offset (used width ∷ layout) zero w x =
    rw (take_put offset width w x, above_kept offset width (offset + width) layout w x (le_refl _))
    (ap (λ (l : List ℕ). x % 2 ^ width ∷ l) (low-fields (offset + width) layout w))
one_from offset (used width ∷ layout) (suc n) w x =
    rw (below-kept offset width (offset + width) layout n w x (le_refl _), mod-mod)
    (ap (λ (l : List ℕ). field offset width w ∷ l) (one_from (offset + width) layout n w x))
one_from offset (reserved width ∷ layout) n w x = one_from (offset + width) layout n w x

pub one-changed : OneChanged
one-changed register n w x = one_from 0 (layout_of register) n w x

-- A field ends with its layout, and every layout is at most a word, by one computed test of them all.
within-layout : (offset : ℕ) (layout : Layout) (number : ℕ)
    → (position_from offset layout number).0 + (position_from offset layout number).1 ≤ offset + width_of layout
within-layout offset [] n = omega arith
within-layout offset (used width ∷ layout) zero = omega arith
within-layout offset (used width ∷ layout) (suc n) = omega (arith, within-layout (offset + width) layout n)
within-layout offset (reserved width ∷ layout) n = omega (arith, within-layout (offset + width) layout n)

abbrev widest : List Layout → ℕ
widest [] = 0
widest (layout ∷ all) = max (width_of layout) (widest all)

at-most-widest : (all : List Layout) (register : ℕ) → width_of (get_or all register []) ≤ widest all
at-most-widest [] register = omega arith
at-most-widest (layout ∷ all) zero = omega arith
at-most-widest (layout ∷ all) (suc register) = omega (arith, at-most-widest all register)

pub within_word : (register number : ℕ) → (position_of register number).0 + (position_of register number).1 ≤ 64
within_word register n = omega (arith, within-layout 0 (layout_of register) n, at-most-widest layouts register)
