-- Arrays of four, as those of the levels and of the processors are: their entries by number. Assumes nothing.
use mathlib.Core.Path.{◌≡◌, refl}
use mathlib.Core.Bool.{true}
use mathlib.Core.List.{List, [], ◌∷◌}
use Prim.Native.Nat.{ℕ, zero, suc, ◌<◌}
use native.Mathlib.Omega.{arith}
use lib.Dec.{leb, ltb}
use lib.ListN.{get_or, set}
use borrow.Author.Tests.{ltb-true}
use Rattle.model.specs.State.{Shape, top, is_level}
use Rattle.model.proofs.Bools.{and_right}

-- A level of the machine is below 4.
pub level-low : (z : Shape) (l : ℕ) → is_level z l ≡ true → l < 4
unfolding is_level
level-low z l e = ltb-true l 4 (and_right (leb l (top z)) (ltb l 4) e)

-- What holds of 0, 1, 2 and 3 holds of each number below 4.
pub below-four : (P : ℕ → Type 0) → P 0 → P 1 → P 2 → P 3 → (i : ℕ) → i < 4 → P i
below-four P a b c d zero h = a
below-four P a b c d (suc zero) h = b
below-four P a b c d (suc (suc zero)) h = c
below-four P a b c d (suc (suc (suc zero))) h = d
below-four P a b c d (suc (suc (suc (suc i)))) h = absurd (omega arith)

-- Four entries by their number.
module _ {A : Type 0} (f : ℕ → A) where
  abbrev pub four : List A
  four = f 0 ∷ f 1 ∷ f 2 ∷ f 3 ∷ []

  pub four-at : (d : A) (l : ℕ) → l < 4 → get_or four l d ≡ f l
  four-at d = below-four (λ l. get_or four l d ≡ f l) refl refl refl refl

pub four-set : {A : Type 0} (f g : ℕ → A) (l : ℕ) → l < 4 → ((i : ℕ) → i < 4 → (i ≡ l → ⊥) → g i ≡ f i) → four g ≡ set (four f) l (g l)
four-set f g zero h k = rw (k 1 (omega arith) (λ e. omega arith), k 2 (omega arith) (λ e. omega arith), k 3 (omega arith) (λ e. omega arith))
four-set f g (suc zero) h k = rw (k 0 (omega arith) (λ e. omega arith), k 2 (omega arith) (λ e. omega arith), k 3 (omega arith) (λ e. omega arith))
four-set f g (suc (suc zero)) h k = rw (k 0 (omega arith) (λ e. omega arith), k 1 (omega arith) (λ e. omega arith), k 3 (omega arith) (λ e. omega arith))
four-set f g (suc (suc (suc zero))) h k = rw (k 0 (omega arith) (λ e. omega arith), k 1 (omega arith) (λ e. omega arith), k 2 (omega arith) (λ e. omega arith))
four-set f g (suc (suc (suc (suc l)))) h k = absurd (omega arith)
