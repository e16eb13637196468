-- A line number with its digits, as the code keeps them from line to line, and a number that is written with more bytes after it.
-- Assumes nothing.
use Rattle.std.specs.Prelude.{◌≡◌, ℕ, zero, suc, ◌+◌, ◌/◌, ◌%◌, ◌<◌, ◌≤◌, cond, List, [], ◌∷◌, ◌++◌, length, ◌==◌}
use Rattle.std.proofs.lemmas.List.Edits.{sets}
use Rattle.decimal.specs.Write.{digits_before, last_byte}
use Rattle.session.specs.declared.listing_record.Digits.{Digits}
use Rattle.session.specs.declared.listing_record.LineNumber.{LineNumber}

-- The bytes of a word, the lowest first.
unfoldable pub packed : ℕ → ℕ → List ℕ
packed zero word = []
packed (suc width) word = word % 256 ∷ packed width (word / 256)

-- The digits of a number in front of other bytes; 0 has none.
abbrev pub leading : ℕ → List ℕ → List ℕ
leading n rest = cond (n == 0) rest (digits_before n rest)

pub record Packed (n : ℕ) (digits : Digits) : Type 0 where
  pub text : packed digits.width digits.word ≡ leading n []
  pub few : digits.width ≤ 8

-- The digits of a line number stand in it where those before the last are at most eight.
pub record Numbered (line : LineNumber) (n : ℕ) : Type 0 where
  pub number : line.number ≡ n
  pub short : line.width ≤ 8 → (n < 1000000000) × (packed line.width line.front ≡ leading (n / 10) []) × (line.last ≡ last_byte n)

-- A text was written, and then more bytes, which are covered by whatever is written after the text and has at least six bytes.
pub record Ahead (before : List ℕ) (at : ℕ) (text after : List ℕ) : Type 0 where
  pub size : length after ≡ length before
  pub ahead : (more : List ℕ) → 6 ≤ length more → sets after (at + length text) more ≡ sets before at (text ++ more)
