-- Laws of lists that are stored into another, one after another.
-- Assumes nothing.
use Prim.Native.Nat.{ℕ, suc, ◌+◌, ◌<◌}
use mathlib.Core.List.{List, [], ◌∷◌, ◌++◌}
use mathlib.Core.Path.{◌≡◌, sym, ap, ◌∙◌}
use native.Mathlib.Nat.{add-zero}
use native.Mathlib.Numerals.{add-one}
use native.Mathlib.Omega.{arith}
use lib.ListN.{length, get_or, set, take}
use lib.Seq.{length-take-le, sets, take-suc}

-- A run of stores and another after it are one run.
pub sets-append : {A : Type 0} (first buffer : List A) (at : ℕ) (second : List A)
    → sets (sets buffer at first) (at + length first) second ≡ sets buffer at (first ++ second)
sets-append [] buffer at second = ap (λ (i : ℕ). sets buffer i second) (add-zero at)
sets-append (x ∷ first) buffer at second =
    let place : at + suc (length first) ≡ suc at + length first = omega arith in
    ap (λ (i : ℕ). sets (sets (set buffer at x) (suc at) first) i second) place ∙ sets-append first (set buffer at x) (suc at) second

-- One element more of a list is stored.
pub one-more : {A : Type 0} (to : List A) (at : ℕ) (from : List A) (i : ℕ) {x : A} → i < length from → x ≡ get_or from i x
    → set (sets to at (take i from)) (at + i) x ≡ sets to at (take (i + 1) from)
one-more to at from i {x} h e =
    let len : length (take i from) ≡ i = length-take-le i from (omega arith) in
    ap (λ (j : ℕ). set (sets to at (take i from)) (at + j) x) (sym len)
    ∙ sets-append (take i from) to at (x ∷ [])
    ∙ ap (λ y. sets to at (take i from ++ y ∷ [])) e
    ∙ ap (sets to at) (sym (take-suc from i x h) ∙ ap (λ (j : ℕ). take j from) (sym (add-one i)))
