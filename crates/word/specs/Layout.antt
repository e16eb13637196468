-- A register's layout: the fields of a C bit-field union of document 001, from bit 0 up, in the order in which 001 prints them.
-- Each definition walks the layout with the offset that it has reached. Assumes nothing.
use Rattle.std.specs.Prelude.{ℕ, ◌+◌, ◌%◌, ◌^◌, Bool, true, ◌&&◌, List, [], ◌∷◌, ◌==◌, slice_index}
use mathlib.Core.List.{tail}
use Rattle.word.specs.Field.{field, put}

-- A part of a layout is a used field or a reserved one, of a width.
pub data Part : Type 0 where
  used : ℕ → Part
  reserved : ℕ → Part

-- A layout is the list of its parts.
abbrev pub Layout : Type 0
Layout = List Part

-- How many bits the layout has.
abbrev pub width_of : Layout → ℕ
width_of [] = 0
width_of (used width ∷ layout) = width + width_of layout
width_of (reserved width ∷ layout) = width + width_of layout

-- The values of the used fields, in order.
abbrev pub unpack_from : ℕ → Layout → ℕ → List ℕ
unpack_from offset [] word = []
unpack_from offset (used width ∷ layout) word = field offset width word ∷ unpack_from (offset + width) layout word
unpack_from offset (reserved width ∷ layout) word = unpack_from (offset + width) layout word

-- The word with each value put into its used field. A value that is missing counts as 0.
abbrev pub pack_from : ℕ → Layout → List ℕ → ℕ → ℕ
pack_from offset [] values word = word
pack_from offset (used width ∷ layout) values word = pack_from (offset + width) layout (tail values) (put offset width word (slice_index values 0))
pack_from offset (reserved width ∷ layout) values word = pack_from (offset + width) layout values word

-- Is each reserved field 0?
abbrev pub reserved_clear_from : ℕ → Layout → ℕ → Bool
reserved_clear_from offset [] word = true
reserved_clear_from offset (used width ∷ layout) word = reserved_clear_from (offset + width) layout word
reserved_clear_from offset (reserved width ∷ layout) word =
    (field offset width word == 0) && reserved_clear_from (offset + width) layout word

-- What a layout keeps of a list of values: for each used field, its value modulo 2 ^ width.
abbrev pub low_bits : Layout → List ℕ → List ℕ
low_bits [] values = []
low_bits (used width ∷ layout) values = slice_index values 0 % 2 ^ width ∷ low_bits layout (tail values)
low_bits (reserved width ∷ layout) values = low_bits layout values

-- The three for a whole word: from bit 0, and packing from the word 0.
abbrev pub unpack : Layout → ℕ → List ℕ
unpack layout word = unpack_from 0 layout word

abbrev pub pack : Layout → List ℕ → ℕ
pack layout values = pack_from 0 layout values 0

abbrev pub reserved_clear : Layout → ℕ → Bool
reserved_clear layout word = reserved_clear_from 0 layout word
