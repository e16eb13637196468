-- Laws of arrays: what is read after a store. A law asks nothing of the list's length. Assumes nothing.
use mathlib.Core.Path.{◌≡◌, refl, ap}
use mathlib.Core.Bool.{Bool, true, false, cond}
use mathlib.Core.List.{List, [], ◌∷◌}
use Prim.Native.Nat.{ℕ, zero, suc}
use lib.Dec.{ltb}
use lib.ListN.{get_or, set}
use Rattle.model.specs.Arrays.{number_at, stored}

module _ {A : Type 0} (P : A → Type 0) where
  -- What holds of the old entry, and of the new one at its own place, holds after `set`, and after a store.
  pub set_cases : (xs : List A) (i j : ℕ) (a d : A) → P (get_or xs j d) → (j ≡ i → P a) → P (get_or (set xs i a) j d)
  set_cases [] i j a d h k = h
  set_cases (x ∷ xs) zero zero a d h k = k refl
  set_cases (x ∷ xs) zero (suc j) a d h k = h
  set_cases (x ∷ xs) (suc i) zero a d h k = h
  set_cases (x ∷ xs) (suc i) (suc j) a d h k = set_cases xs i j a d h (λ e. k (ap suc e))

  pub stored-cases : (n : ℕ) (xs : List A) (i j : ℕ) (a d : A) → P (get_or xs j d) → (j ≡ i → P a) → P (get_or (stored n xs i a) j d)
  unfolding stored
  stored-cases n xs i j a d h k = go (ltb i n)
    where
      go : (b : Bool) → P (get_or (cond b (set xs i a) xs) j d)
      go true = set_cases xs i j a d h k
      go false = h

-- The same of a number.
pub number-cases : (P : ℕ → Type 0) (n : ℕ) (xs : List ℕ) (i j a : ℕ) → P (number_at n xs j) → (j ≡ i → P a) → P (number_at n (stored n xs i a) j)
unfolding number_at
number-cases P n xs i j a h k = go (ltb j n) h
  where
    go : (b : Bool) → P (cond b (get_or xs j 0) 0) → P (cond b (get_or (stored n xs i a) j 0) 0)
    go true q = stored-cases P n xs i j a 0 q k
    go false q = q

-- What is read at the place of a store is what was stored, or 0.
pub number-new : (P : ℕ → Type 0) (n : ℕ) (xs : List ℕ) (i a : ℕ) → P a → P 0 → P (number_at n (stored n xs i a) i)
unfolding number_at stored
number-new P n xs i a h z = go (ltb i n)
  where
    set_new : (xs : List ℕ) (i : ℕ) → P (get_or (set xs i a) i 0)
    set_new [] i = z
    set_new (x ∷ xs) zero = h
    set_new (x ∷ xs) (suc i) = set_new xs i

    go : (b : Bool) → P (cond b (get_or (cond b (set xs i a) xs) i 0) 0)
    go true = set_new xs i
    go false = z
