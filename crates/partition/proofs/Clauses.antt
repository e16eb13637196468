-- The clauses of a well-formed level that speak of masks: a mask is tested once for both, that it is valid and, where the level is
-- strict, that it has not KMX and no UMX. Assumes nothing.
use mathlib.Core.Path.{◌≡◌, sym, ap, ◌∙◌}
use mathlib.Core.Bool.{Bool, true, false, not, ◌&&◌, and-true, and-false, and_assoc, or-true, or-and_distrib_left}
use mathlib.Core.List.{[], ◌∷◌}
use Prim.Native.Nat.{ℕ, zero, suc}
use Rattle.model.proofs.BoundedLaws.{every-and}
use Rattle.model.specs.Bounded.{every, all_of}
use Rattle.model.specs.Masks.{valid_mask, kernel_only}
use Rattle.model.specs.WellFormed.{◌implies◌}
use Rattle.partition.specs.Denying.{mask_passes}

-- A test that is made only where the level is strict.
every-strict : (strict : Bool) (n : ℕ) (f : ℕ → Bool) → every n (λ i. strict implies f i) ≡ (strict implies every n f)
unfolding every
every-strict strict zero f = sym (or-true (not strict))
every-strict strict (suc n) f =
    ap (λ b. b && (strict implies f n)) (every-strict strict n f) ∙ sym (or-and_distrib_left (not strict) (every n f) (f n))

-- The clauses in the code's order, and in that of the rule: m has the page masks, k is the default mask.
pub clauses : (strict : Bool) (n : ℕ) (m : ℕ → ℕ) (k : ℕ) (a b c : Bool)
    → (every n (λ p. mask_passes strict (m p)) && mask_passes strict k && a && b && c)
    ≡ all_of (
    every n (λ p. valid_mask (m p))
    ∷ valid_mask k
    ∷ a
    ∷ b
    ∷ c
    ∷ (strict implies (not (kernel_only k) && every n (λ p. not (kernel_only (m p)))))
    ∷ [])
unfolding all_of
clauses strict n m k a b c =
    let valid : ℕ → Bool = λ p. valid_mask (m p) in
    let free : ℕ → Bool = λ p. not (kernel_only (m p)) in
    rw (every-and n valid (λ p. strict implies free p), every-strict strict n free)
    (go strict (every n valid) (every n free) (valid_mask k) (not (kernel_only k)))
  where
    go : (strict valid free valid' free' : Bool)
        → (valid && (strict implies free) && (valid' && (strict implies free')) && a && b && c)
        ≡ (valid && (valid' && (a && (b && (c && ((strict implies (free' && free)) && true))))))
    go false v e d k = simp (and-true, and_assoc)
    go true v true d true = simp (and-true, and_assoc)
    go true v false d true = simp and-false
    go true v e d false = simp and-false
