-- Laws of the map that sees the place: what is read of its result, and two maps one after the other. Assumes nothing.
use mathlib.Core.Path.{◌≡◌, refl, sym, ap, ◌∙◌}
use mathlib.Core.Bool.{Bool, true, false, cond}
use mathlib.Core.List.{List, [], ◌∷◌}
use Prim.Native.Nat.{ℕ, zero, suc, ◌<◌}
use native.Mathlib.Omega.{arith}
use lib.Dec.{ltb}
use lib.ListN.{length, get_or, set, replicate}
use Rattle.model.specs.Arrays.{number_at, stored}
use Rattle.model.proofs.Bools.{cond-ap}
use Rattle.model.specs.MapAt.{map_at}

module _ {A : Type 0} where
  pub map_at-nil : (f : ℕ → A → A) → map_at f [] ≡ []
  unfolding map_at
  map_at-nil f = refl

  pub length-map_at : (f : ℕ → A → A) (l : List A) → length (map_at f l) ≡ length l
  unfolding map_at
  length-map_at f [] = refl
  length-map_at f (x ∷ l) = ap suc (length-map_at (λ i. f (suc i)) l)

  pub get_or-map_at : (f : ℕ → A → A) (l : List A) (i : ℕ) (d : A) → f i d ≡ d → get_or (map_at f l) i d ≡ f i (get_or l i d)
  unfolding map_at
  get_or-map_at f [] i d h = sym h
  get_or-map_at f (x ∷ xs) zero d h = refl
  get_or-map_at f (x ∷ xs) (suc i) d h = get_or-map_at (λ i. f (suc i)) xs i d h

  pub map_at-set : (f : ℕ → A → A) (l : List A) (i : ℕ) (x : A) → map_at f (set l i x) ≡ set (map_at f l) i (f i x)
  unfolding map_at
  map_at-set f [] i x = refl
  map_at-set f (y ∷ l) zero x = refl
  map_at-set f (y ∷ l) (suc i) x = ap (λ (t : List A). f 0 y ∷ t) (map_at-set (λ i. f (suc i)) l i x)

  -- Maps that agree at each place, and at each place but one, which is stored to.
  pub map_at-same : (f g : ℕ → A → A) (l : List A) → ((i : ℕ) (x : A) → f i x ≡ g i x) → map_at f l ≡ map_at g l
  unfolding map_at
  map_at-same f g [] h = refl
  map_at-same f g (x ∷ l) h = rw (h 0 x, map_at-same (λ i. f (suc i)) (λ i. g (suc i)) l (λ i. h (suc i)))

  pub map_at-set-other : (f g : ℕ → A → A) (l : List A) (i : ℕ) (x : A) → ((j : ℕ) → (j ≡ i → ⊥) → (y : A) → f j y ≡ g j y) → map_at g (set l i x) ≡ set (map_at f l) i (g i x)
  unfolding map_at
  map_at-set-other f g [] i x h = refl
  map_at-set-other f g (y ∷ l) zero x h = ap (λ (t : List A). g 0 x ∷ t) (sym (map_at-same (λ i. f (suc i)) (λ i. g (suc i)) l (λ i. h (suc i) (λ e. omega arith))))
  map_at-set-other f g (y ∷ l) (suc i) x h =
      rw (h 0 (λ e. omega arith) y) (ap (λ (t : List A). g 0 y ∷ t) (map_at-set-other (λ i. f (suc i)) (λ i. g (suc i)) l i x (λ j n. h (suc j) (λ e. n (omega arith)))))

  -- What holds of the default and of each image holds after the map.
  pub map_at-cases : (P : A → Type 0) (f : ℕ → A → A) (l : List A) (i : ℕ) (d : A) → P d → ((x : A) → P (f i x)) → P (get_or (map_at f l) i d)
  unfolding map_at
  map_at-cases P f [] i d h k = h
  map_at-cases P f (x ∷ l) zero d h k = k x
  map_at-cases P f (x ∷ l) (suc i) d h k = map_at-cases P (λ i. f (suc i)) l i d h k

  -- Two maps, one after the other: they commute at each place; the second undoes the first; they agree at each place.
  pub map_at-map_at : (f g : ℕ → A → A) (l : List A) → ((i : ℕ) (x : A) → f i (g i x) ≡ g i (f i x)) → map_at f (map_at g l) ≡ map_at g (map_at f l)
  unfolding map_at
  map_at-map_at f g [] h = refl
  map_at-map_at f g (x ∷ l) h = rw (h 0 x) (ap (λ (t : List A). g 0 (f 0 x) ∷ t) (map_at-map_at (λ i. f (suc i)) (λ i. g (suc i)) l (λ i. h (suc i))))

  pub map_at-again : (f g h : ℕ → A → A) (l : List A) → ((i : ℕ) (x : A) → f i (g i x) ≡ h i x) → map_at f (map_at g l) ≡ map_at h l
  unfolding map_at
  map_at-again f g h [] e = refl
  map_at-again f g h (x ∷ l) e = rw (e 0 x, map_at-again (λ i. f (suc i)) (λ i. g (suc i)) (λ i. h (suc i)) l (λ i. e (suc i)))

  pub map_at-absorb : (f g : ℕ → A → A) (l : List A) → ((i : ℕ) (x : A) → f i (g i x) ≡ f i x) → map_at f (map_at g l) ≡ map_at f l
  map_at-absorb f g = map_at-again f g f

  pub map_at-ext : (f g : ℕ → A → A) (l : List A) (d : A) → ((i : ℕ) → i < length l → f i (get_or l i d) ≡ g i (get_or l i d)) → map_at f l ≡ map_at g l
  unfolding map_at
  map_at-ext f g [] d h = refl
  map_at-ext f g (x ∷ l) d h = rw (h 0 (omega arith), map_at-ext (λ i. f (suc i)) (λ i. g (suc i)) l d (λ i k. h (suc i) (omega arith)))

  -- A map that changes nothing in a list of equal entries.
  pub map_at-replicate : (f : ℕ → A → A) (n : ℕ) (x : A) → ((i : ℕ) → f i x ≡ x) → map_at f (replicate n x) ≡ replicate n x
  unfolding map_at
  map_at-replicate f zero x h = refl
  map_at-replicate f (suc n) x h = rw (h 0, map_at-replicate (λ i. f (suc i)) n x (λ i. h (suc i)))

  pub map_at-stored : (f : ℕ → A → A) (n : ℕ) (l : List A) (i : ℕ) (x : A) → map_at f (stored n l i x) ≡ stored n (map_at f l) i (f i x)
  unfolding stored
  map_at-stored f n l i x = sym (cond-ap (map_at f) (ltb i n) (set l i x) l) ∙ rw (map_at-set f l i x)

pub number-map_at : (f : ℕ → ℕ → ℕ) (n : ℕ) (l : List ℕ) (i : ℕ) → f i 0 ≡ 0 → number_at n (map_at f l) i ≡ f i (number_at n l i)
unfolding number_at
number-map_at f n l i h = go (ltb i n)
  where
    go : (b : Bool) → cond b (get_or (map_at f l) i 0) 0 ≡ f i (cond b (get_or l i 0) 0)
    go true = get_or-map_at f l i 0 h
    go false = sym h
