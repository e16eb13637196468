-- Laws of lists by their entries. Assumes nothing.
use mathlib.Core.Path.{◌≡◌, refl, ap, ◌∙◌}
use mathlib.Core.List.{List, [], ◌∷◌}
use Prim.Native.Nat.{ℕ, zero, suc, ◌<◌}
use native.Mathlib.Omega.{arith}
use lib.ListN.{length, get_or}
use borrow.Author.Tests.{lt-ltb}
use Rattle.model.specs.Arrays.{number_at}
use Rattle.model.specs.MapAt.{map_at}
use Rattle.records.specs.Values.{table}

module _ {A : Type 0} where
  pub length-table : (n : ℕ) (f : ℕ → A) → length (table n f) ≡ n
  unfolding table
  length-table zero f = refl
  length-table (suc n) f = ap suc (length-table n (λ i. f (suc i)))

  pub get_or-table : (n : ℕ) (f : ℕ → A) (i : ℕ) (d : A) → i < n → get_or (table n f) i d ≡ f i
  unfolding table
  get_or-table zero f i d h = absurd (omega arith)
  get_or-table (suc n) f zero d h = refl
  get_or-table (suc n) f (suc i) d h = get_or-table n (λ i. f (suc i)) i d (omega arith)

  pub table_same : (n : ℕ) (f g : ℕ → A) → ((i : ℕ) → i < n → f i ≡ g i) → table n f ≡ table n g
  unfolding table
  table_same zero f g h = refl
  table_same (suc n) f g h = rw (h 0 (omega arith), table_same n (λ i. f (suc i)) (λ i. g (suc i)) (λ i k. h (suc i) (omega arith)))

  pub map_at-table : (f : ℕ → A → A) (l : List A) (n : ℕ) (d : A) → length l ≡ n → map_at f l ≡ table n (λ i. f i (get_or l i d))
  unfolding table map_at
  map_at-table f [] zero d e = refl
  map_at-table f [] (suc n) d e = absurd (omega arith)
  map_at-table f (x ∷ l) zero d e = absurd (omega arith)
  map_at-table f (x ∷ l) (suc n) d e = ap (λ (t : List A). f 0 x ∷ t) (map_at-table (λ i. f (suc i)) l n d (omega arith))

  -- A map is a table, where they agree at each entry.
  pub map_at-is : (f : ℕ → A → A) (l : List A) (n : ℕ) (d : A) (g : ℕ → A) → length l ≡ n → ((i : ℕ) → i < n → f i (get_or l i d) ≡ g i)
      → map_at f l ≡ table n g
  map_at-is f l n d g e h = map_at-table f l n d e ∙ table_same n (λ i. f i (get_or l i d)) g h

  pub list-is : (l : List A) (n : ℕ) (d : A) (g : ℕ → A) → length l ≡ n → ((i : ℕ) → i < n → get_or l i d ≡ g i) → l ≡ table n g
  unfolding table
  list-is [] zero d g e h = refl
  list-is [] (suc n) d g e h = absurd (omega arith)
  list-is (x ∷ l) zero d g e h = absurd (omega arith)
  list-is (x ∷ l) (suc n) d g e h = rw (← h 0 (omega arith)) (ap (λ (t : List A). x ∷ t) (list-is l n d (λ i. g (suc i)) (omega arith) (λ i k. h (suc i) (omega arith))))

pub number-table : (n : ℕ) (f : ℕ → ℕ) (i : ℕ) → i < n → number_at n (table n f) i ≡ f i
unfolding number_at
number-table n f i h = rw (lt-ltb i n h) (get_or-table n f i 0 h)

pub number-get : (n : ℕ) (l : List ℕ) (i : ℕ) → i < n → number_at n l i ≡ get_or l i 0
unfolding number_at
number-get n l i h = rw (lt-ltb i n h)
