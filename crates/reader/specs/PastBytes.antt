-- What the functions that compare the beginning of a line promise: the number that follows is read behind the bytes that the line must
-- have. Assumes nothing.
use Rattle.std.specs.Prelude.{List, [], ◌∷◌, ◌++◌, ◌≡◌, ℕ, ◌≤◌, ◌<◌, drop, length, None, Option, Some}
use Rattle.records.specs.Reading.{number_after}

-- From `at` on a line must have some bytes, and then more, and then a number. Either it has not these bytes, or they end within it.
abbrev pub After : List ℕ → ℕ → List ℕ → Option ℕ → Type 0
After line at bytes None = (more : List ℕ) → number_after (bytes ++ more) (drop at line) ≡ None
After line at bytes (Some end) =
    ((more : List ℕ) → number_after (bytes ++ more) (drop at line) ≡ number_after more (drop end line)) × (end ≤ length line)

-- Indices have one digit or two.
abbrev pub TwoDigits : List ℕ → Type 0
TwoDigits [] = Unit {0}
TwoDigits (n ∷ more) = (n < 100) × TwoDigits more
