-- At most three numbers in an array of three, with zeros behind them. Assumes nothing.
use Rattle.std.specs.Prelude.{◌≡◌, ◌≤◌, ◌-◌, ◌++◌, List, ℕ, length, take, replicate}

-- The numbers in three places.
abbrev pub in_three : List ℕ → List ℕ
in_three numbers = numbers ++ replicate (3 - length numbers) 0

-- Behind the first `count` numbers, at most three, stand zeros alone.
pub record FewNumbers (numbers : List ℕ) (count : ℕ) : Type 0 where
  pub few : count ≤ 3
  pub counted : length (take count numbers) ≡ count
  pub zeros : in_three (take count numbers) ≡ numbers
