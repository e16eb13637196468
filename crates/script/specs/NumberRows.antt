-- How the code finds the fields of a line, and how it holds their numbers.
-- Assumes nothing.
use Rattle.std.specs.Prelude.{cond, List, [], ◌∷◌, ◌≡◌, ℕ, ◌≤◌, eqb, drop, get_or, length, replicate, None, Option, Some, Result, ok_or}
use Rattle.std.proofs.lemmas.List.Edits.{sets}
use Rattle.script.specs.LineForms.{Refusal, NotANumber, WrongFieldCount, fields, numbers_in, tab}
use Rattle.script.specs.Search.{byte_at, until_byte}

-- How many bytes stand before the first tab.
abbrev pub until_tab : List ℕ → ℕ
until_tab line = until_byte tab line

-- Where the field that starts at a place ends: at the next tab, or at the line's end.
abbrev pub field_end : List ℕ → ℕ → ℕ
field_end line start = byte_at tab line start

-- The fields after the one that ends at a place.
abbrev pub after_tab : List ℕ → List (List ℕ)
after_tab [] = []
after_tab (byte ∷ line) = fields line

abbrev pub fields_after : List ℕ → ℕ → List (List ℕ)
fields_after line end = after_tab (drop end line)

-- Why fields are refused that are not the numbers an event takes: another count, or one that is not a number.
abbrev pub refusal_in : ℕ → List (List ℕ) → Refusal
refusal_in takes more = cond (eqb (length more) takes) NotANumber WrongFieldCount

-- Numbers in front of zeros, where there are as many as are taken.
abbrev pub row : ℕ → Option (List ℕ) → Option (List ℕ)
row takes None = None
row takes (Some numbers) = cond (eqb (length numbers) takes) (Some (sets (replicate 7 0) 0 numbers)) None

-- The same of the numbers that fields say, and why they are refused where there is no such row.
abbrev pub row_in : ℕ → List (List ℕ) → Option (List ℕ)
row_in takes more = row takes (numbers_in more)

abbrev pub numbers_after : ℕ → List (List ℕ) → Result (List ℕ) Refusal
numbers_after takes more = ok_or (row_in takes more) (refusal_in takes more)

-- Where the field from `start` on was found to end. A field that begins with a tab is empty: it says no number wherever it is ended.
pub record NumberEnd (line : List ℕ) (start end : ℕ) : Type 0 where
  pub after : start ≤ end
  pub within : end ≤ length line
  pub ends : (get_or line start 0 ≡ tab → ⊥) → end ≡ field_end line start
