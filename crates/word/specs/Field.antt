-- A field of a word: `width` bits from bit `offset` up. The registers of document 001 are words made of such fields ("ReservedZ : 28" and
-- the like in its C types). A word is a natural number here; a register's is below 2 ^ 64. Assumes nothing.
use Rattle.std.specs.Prelude.{ℕ, ◌+◌, ◌*◌, ◌/◌, ◌%◌, ◌^◌, Bool, ◌==◌}
use Rattle.word.specs.declared.field.FieldPosition.{FieldPosition}

-- The field of `width` bits at bit `offset` of a word.
abbrev pub field : ℕ → ℕ → ℕ → ℕ
field offset width word = word / 2 ^ offset % 2 ^ width

-- The word with that field replaced by the low bits of a value.
abbrev pub put : ℕ → ℕ → ℕ → ℕ → ℕ
put offset width word value = word / 2 ^ (offset + width) * 2 ^ (offset + width) + value % 2 ^ width * 2 ^ offset + word % 2 ^ offset

-- The same in 64 bits: what lies past bit 63 is dropped. It is `put` itself for a field that ends by bit 64 (`put_whole`).
abbrev pub put_word : ℕ → ℕ → ℕ → ℕ → ℕ
put_word offset width word value = put offset width word value % 2 ^ 64

-- Is a bit of the word set?
abbrev pub bit : ℕ → ℕ → Bool
bit word index = field index 1 word == 1

-- The two at the position of a field: its offset and its width.
abbrev pub field_at : FieldPosition → ℕ → ℕ
field_at position word = field position.0 position.1 word

abbrev pub put_at : FieldPosition → ℕ → ℕ → ℕ
put_at position word value = put position.0 position.1 word value
