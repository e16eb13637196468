-- The lines of a script (01, "Script and listing"). Assumes nothing.
use Rattle.std.specs.Prelude.{cond, List, [], ◌∷◌, ◌++◌, ℕ, eqb}
use Rattle.script.specs.ListingLine.{line_feed}

-- The lines that a line feed ends, and the bytes after the last line feed.
pub record Lines : Type 0 where
  pub complete : List (List ℕ)
  pub rest : List ℕ

-- A byte in front of them.
abbrev pub in_front : ℕ → List (List ℕ) → List ℕ → Lines
in_front byte [] rest = record { complete = []; rest = byte ∷ rest }
in_front byte (line ∷ more) rest = record { complete = (byte ∷ line) ∷ more; rest = rest }

unfoldable pub lines_in : List ℕ → Lines
lines_in [] = record { complete = []; rest = [] }
lines_in (byte ∷ bytes) =
    cond (eqb byte line_feed)
    (record { complete = [] ∷ (lines_in bytes).complete; rest = (lines_in bytes).rest })
    (in_front byte (lines_in bytes).complete (lines_in bytes).rest)

-- One record a line; the last line may lack its line feed. A line feed at the end opens no further line.
abbrev pub last_line : List ℕ → List (List ℕ)
last_line [] = []
last_line (byte ∷ rest) = (byte ∷ rest) ∷ []

unfoldable pub lines : List ℕ → List (List ℕ)
lines input = (lines_in input).complete ++ last_line (lines_in input).rest
