-- What is read of the masks and stored in an array, case by case as the code tests. Assumes nothing.
use mathlib.Core.Path.{◌≡◌}
use mathlib.Core.Bool.{Bool, cond, ◌&&◌, and-true, and-false}
use mathlib.Core.List.{List}
use Prim.Native.Nat.{ℕ, ◌+◌, ◌*◌, ◌≤◌, ◌<◌}
use native.Mathlib.Omega.{arith}
use lib.Dec.{leb, ltb}
use lib.ListN.{get_or, set}
use borrow.Author.Tests.{lt-ltb, le-ltb}
use Rattle.model.specs.declared.machine.Shape.{Shape}
use Rattle.model.specs.Arrays.{number_at, stored}
use Rattle.model.specs.State.{is_level, top, mask_in}

-- A store within the array, and one past its end.
pub stored-in : {A : Type 0} (n : ℕ) (xs : List A) (i : ℕ) (x : A) → i < n → set xs i x ≡ stored n xs i x
unfolding stored
stored-in n xs i x h = rw (lt-ltb i n h)

pub stored_past : {A : Type 0} (n : ℕ) (xs : List A) (i : ℕ) (x : A) → n ≤ i → xs ≡ stored n xs i x
unfolding stored
stored_past n xs i x h = rw (le-ltb i n h)

-- The mask of a page past 63, of a level above 3, and of any other.
pub mask-page-past : (z : Shape) (P : ℕ) (ks : List ℕ) (l p : ℕ) → 64 ≤ p → 0 ≡ mask_in z P ks l p
unfolding mask_in
mask-page-past z P ks l p h = rw (le-ltb p 64 h, and-false (ltb p P), and-false)

pub mask-level-past : (z : Shape) (P : ℕ) (ks : List ℕ) (l p : ℕ) → 4 ≤ l → 0 ≡ mask_in z P ks l p
unfolding mask_in is_level
mask-level-past z P ks l p h = rw (le-ltb l 4 h, and-false (leb l (top z)), and-false (ltb 0 l))

pub mask-in : (z : Shape) (P : ℕ) (ks : List ℕ) (l p : ℕ) → p < 64 → l < 4
    → (b : Bool) → (ltb 0 l && leb l z.max_level.0 && ltb p P) ≡ b
    → cond b (get_or ks (4 * p + l) 0) 0 ≡ mask_in z P ks l p
unfolding mask_in is_level top number_at
mask-in z P ks l p h m b e =
    rw (← e, lt-ltb l 4 m, lt-ltb p 64 h, and-true (leb l z.max_level.0), and-true (ltb p P))
    (rw (lt-ltb (4 * p + l) 256 (omega arith)))
