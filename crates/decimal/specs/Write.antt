-- A number as decimal text, and a text that is put into a buffer.
-- Says which bytes the text has, and what each byte of the buffer and the place after the text are then. Assumes nothing.
use Rattle.std.specs.Prelude.{ℕ, zero, suc, ◌+◌, ◌/◌, ◌%◌, ◌≤◌, List, [], ◌∷◌, Bool, cond, ltb, leb, length}
use Rattle.std.proofs.lemmas.List.Edits.{sets}

-- The byte of the last digit of n. The byte 48 is the digit 0.
abbrev pub last_byte : ℕ → ℕ
last_byte n = 48 + n % 10

-- The digits of n and then the bytes of `rest`. There is room for one digit and `spare` more.
unfoldable pub digits_in : ℕ → ℕ → List ℕ → List ℕ
digits_in zero n rest = last_byte n ∷ rest
digits_in (suc spare) n rest =
    cond (ltb n 10) (last_byte n ∷ rest) (digits_in spare (n / 10) (last_byte n ∷ rest))

-- The digits of n and then the bytes of `rest`. There is room for 20 digits: numbers are decimal, 0 to 2^64-1.
unfoldable pub digits_before : ℕ → List ℕ → List ℕ
digits_before n rest = digits_in 19 n rest

-- The text of a number is its digits, with no leading zeros.
abbrev pub decimal : ℕ → List ℕ
decimal n = digits_before n []

-- All the bytes are digits.
abbrev pub OnlyDigits : List ℕ → Type 0
OnlyDigits [] = Unit {0}
OnlyDigits (byte ∷ bytes) = (48 ≤ byte) × (byte ≤ 57) × OnlyDigits bytes

-- Whether a text has room in a buffer from a place on.
abbrev pub has_room : List ℕ → ℕ → List ℕ → Bool
has_room buffer at text = leb (at + length text) (length buffer)

-- The buffer with the text in it from a place on, or as it was where the text has no room.
unfoldable pub with_text : List ℕ → ℕ → List ℕ → List ℕ
with_text buffer at text = cond (has_room buffer at text) (sets buffer at text) buffer

-- The place after that text, or the same place where it has no room.
unfoldable pub after_text : List ℕ → ℕ → List ℕ → ℕ
after_text buffer at text = cond (has_room buffer at text) (at + length text) at
