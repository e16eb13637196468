-- Laws of words that are compared byte for byte.
-- Assumes nothing.
use Prim.Native.Nat.{ℕ}
use mathlib.Core.Bool.{Bool, true, false, ◌&&◌}
use mathlib.Core.List.{List, [], ◌∷◌}
use mathlib.Core.Path.{◌≡◌, refl}
use borrow.Author.Tests.{eqb-true}
use native.Mathlib.Omega.{arith}
use lib.Dec.{eqb}
use Rattle.decimal.proofs.DigitReading.{and_parts}
use Rattle.script.specs.Bytes.{same}

-- A test has one outcome.
pub differ : {A : Type 0} → false ≡ true → A
differ h = absurd (let z : ◌≡◌ {A = ℕ} 0 1 = cc in omega arith)

-- Words that are the same are equal.
pub same_true : (left right : List ℕ) → same left right ≡ true → left ≡ right
unfolding same
same_true [] [] h = refl
same_true [] (b ∷ right) h = differ h
same_true (a ∷ left) [] h = differ h
same_true (a ∷ left) (b ∷ right) h =
    let (first, more) = and_parts (eqb a b) (same left right) h in
    let e : a ≡ b = eqb-true a b first in
    cc (same_true left right more)

-- Every element of a list passes a test.
abbrev pub every : {A : Type 0} → (A → Bool) → List A → Bool
every test [] = true
every test (x ∷ more) = test x && every test more
