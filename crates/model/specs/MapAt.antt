-- A map that sees the place of each entry. Assumes nothing.
use Rattle.std.specs.Prelude.{List, [], ◌∷◌, ℕ, suc}

unfoldable pub map_at : {A : Type 0} → (ℕ → A → A) → List A → List A
map_at f [] = []
map_at f (x ∷ xs) = f 0 x ∷ map_at (λ i. f (suc i)) xs
