-- Arrays: lists of a fixed number of entries, read and changed one entry at a time. A number read past the end is 0, and a
-- store past it changes nothing. Assumes nothing.
use Rattle.std.specs.Prelude.{cond, List, ℕ, ltb, get_or, set}

-- The number at i of an array of n numbers.
unfoldable pub number_at : ℕ → List ℕ → ℕ → ℕ
number_at n xs i = cond (ltb i n) (get_or xs i 0) 0

-- An array of n entries with x at i.
unfoldable pub stored : {A : Type 0} → ℕ → List A → ℕ → A → List A
stored n xs i x = cond (ltb i n) (set xs i x) xs
