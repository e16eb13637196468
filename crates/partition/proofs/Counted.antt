-- Loops that count up to a bound: where the loop begins, after one number more, and at its end. Assumes nothing.
use mathlib.Core.Path.{◌≡◌, refl, ap, ◌∙◌}
use mathlib.Core.Bool.{cond}
use mathlib.Core.List.{List}
use Prim.Native.Nat.{ℕ, ◌+◌, ◌*◌, ◌≤◌}
use native.Mathlib.Numerals.{add-one}
use native.Mathlib.Omega.{arith}
use lib.Dec.{ltb}
use Rattle.model.specs.Arrays.{stored}
use Rattle.model.specs.Updates.{filled}

-- At the end of a loop the count is the bound.
counted : {A : Type 0} (F : ℕ → A) (n i : ℕ) {x : A} → x ≡ F i → i ≤ n → n ≤ i → x ≡ F n
counted F n i p a b = let e : i ≡ n = omega arith in p ∙ ap F e

-- The masks of the pages below the count are filled.
pub filled_none : (P l k : ℕ) (ks : List ℕ) → ks ≡ filled 0 P l k ks
unfolding filled
filled_none P l k ks = refl

pub filled_more : (P l k : ℕ) (ks : List ℕ) (i : ℕ) {ms ns : List ℕ}
    → ms ≡ filled i P l k ks → ns ≡ cond (ltb i P) (stored 256 ms (4 * i + l) k) ms → ns ≡ filled (i + 1) P l k ks
unfolding filled
filled_more P l k ks i p q = rw (add-one, q, p)

pub filled-done : (P l k : ℕ) (ks : List ℕ) (n i : ℕ) {ms : List ℕ}
    → ms ≡ filled i P l k ks → i ≤ n → n ≤ i → ms ≡ filled n P l k ks
filled-done P l k ks = counted (λ n. filled n P l k ks)
