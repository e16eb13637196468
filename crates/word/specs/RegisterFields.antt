-- Where the used fields of a register of document 001 stand in its word, and a field read and replaced there. Registers and their used
-- fields are numbered from 0 in the order of 001. All of it follows from the layouts of RegisterLayouts.antt. Assumes nothing.
use Rattle.std.specs.Prelude.{◌≡◌, ℕ, ◌+◌, List, [], ◌∷◌, slice_index, slice_index_or, slice_set}
use Rattle.word.specs.Field.{put_at}
use Rattle.word.specs.Layout.{Layout, low_bits, reserved, unpack, used}
use Rattle.word.specs.RegisterLayouts.{layout_of}
use Rattle.word.specs.declared.field.FieldPosition.{FieldPosition}

-- The value of a used field, and 0 for any other number of a register or a field.
abbrev pub field_of : ℕ → ℕ → ℕ → ℕ
field_of register number word = slice_index (unpack (layout_of register) word) number

-- Where the used fields of a layout stand, from an offset on.
abbrev pub positions_from : ℕ → Layout → List FieldPosition
positions_from offset [] = []
positions_from offset (used width ∷ layout) = record { 0 = offset; 1 = width } ∷ positions_from (offset + width) layout
positions_from offset (reserved width ∷ layout) = positions_from (offset + width) layout

-- Where one of them stands. A field that is not there has no bits.
abbrev pub nowhere : FieldPosition
nowhere = record { 0 = 0; 1 = 0 }

abbrev pub position_from : ℕ → Layout → ℕ → FieldPosition
position_from offset layout number = slice_index_or (positions_from offset layout) number nowhere

abbrev pub position_of : ℕ → ℕ → FieldPosition
position_of register number = position_from 0 (layout_of register) number

-- The word with a field replaced by the low bits of a value. The other bits stay.
abbrev pub with_field : ℕ → ℕ → ℕ → ℕ → ℕ
with_field register number word value = put_at (position_of register number) word value

-- Of the fields of a word, only this one changes: it becomes the low bits of the value.
abbrev pub OneChanged : Type 0
OneChanged = (register number word value : ℕ)
    → let layout = layout_of register in
    unpack layout (with_field register number word value) ≡ low_bits layout (slice_set (unpack layout word) number value)
