-- `==` of two texts, and `same` of them. Assumes nothing.
use mathlib.Core.Bool.{Bool, true, ◌&&◌}
use mathlib.Core.List.{List, [], ◌∷◌}
use mathlib.Core.Path.{◌≡◌, refl, sym, ap, ◌∙◌}
use Prim.Native.Nat.{ℕ}
use borrow.Author.Tests.{eq-eqb}
use lib.Dec.{eqb}
use Rattle.std.specs.Cmp.Lexicographic.{pointwise}
use Rattle.script.specs.Bytes.{same}

-- Texts are equal where they have the same bytes.
equal-same : (left right : List ℕ) → pointwise eqb left right ≡ same left right
unfolding same
equal-same [] [] = refl
equal-same [] (b ∷ right) = refl
equal-same (a ∷ left) [] = refl
equal-same (a ∷ left) (b ∷ right) = ap (λ (t : Bool). eqb a b && t) (equal-same left right)

pub same-by : {answer : Bool} (left right : List ℕ) → answer ≡ pointwise eqb left right → same left right ≡ answer
same-by left right e = sym (e ∙ equal-same left right)

-- A text is the same as itself.
pub same-itself : (text : List ℕ) → same text text ≡ true
unfolding same
same-itself [] = refl
same-itself (byte ∷ text) = rw (eq-eqb byte byte refl) (same-itself text)
