-- The size that the exported functions answer which write a text: `listing` (01, "Script and listing"), `saved` or `resumed` (02, request 2).
-- What the functions on a register's word answer (001) is `field_of` and `with_field` of crates/word/specs/RegisterFields.antt. Assumes nothing.
use Rattle.std.specs.Prelude.{List, ℕ, min, ◌-◌, ◌^◌, length}

-- A number in a word of 64 bits: the largest stands for itself and for all above it.
abbrev pub at_most_word : ℕ → ℕ
at_most_word n = min n (2 ^ 64 - 1)

-- How many bytes a text has. A buffer has fewer than 2 ^ 63 bytes, so no text of the largest size has room in one.
abbrev pub size_of : List ℕ → ℕ
size_of text = at_most_word (length text)
