-- Tests and searches over the numbers below a bound: what the rules are written with.
-- Assumes nothing.
use Rattle.std.specs.Prelude.{Bool, true, false, cond, ◌&&◌, ◌||◌, List, [], ◌∷◌, ℕ, zero, suc, ◌+◌, ◌^◌}

-- Each number below n passes.
unfoldable pub every : ℕ → (ℕ → Bool) → Bool
every zero f = true
every (suc n) f = every n f && f n

-- Some number below n passes.
unfoldable pub any : ℕ → (ℕ → Bool) → Bool
any zero f = false
any (suc n) f = any n f || f n

-- The least number below n that passes; n if none does.
unfoldable pub least : ℕ → (ℕ → Bool) → ℕ
least zero f = 0
least (suc n) f = cond (f 0) 0 (suc (least n (λ i. f (suc i))))

-- The highest number below n that passes; 0 if none does.
unfoldable pub highest : ℕ → (ℕ → Bool) → ℕ
highest zero f = 0
highest (suc n) f = cond (f n) n (highest n f)

-- The number whose bit i, for i below n, is set where i passes.
unfoldable pub bits : ℕ → (ℕ → Bool) → ℕ
bits zero f = 0
bits (suc n) f = bits n f + cond (f n) (2 ^ n) 0

-- All conditions of a list hold.
unfoldable pub all_of : List Bool → Bool
all_of [] = true
all_of (b ∷ bs) = b && all_of bs
