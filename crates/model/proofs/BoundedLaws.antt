-- Laws of the tests and searches below a bound. Assumes nothing.
use mathlib.Core.Path.{◌≡◌, refl, sym, ap, ◌∙◌}
use mathlib.Core.Bool.{Bool, true, false, not, cond, ◌&&◌, ◌||◌, and-true, and-false, and_assoc, or-true}
use Prim.Native.Nat.{ℕ, zero, suc, ◌+◌, ◌≤◌, ◌<◌}
use native.Mathlib.Omega.{arith}
use lib.Dec.{eqb}
use Rattle.std.specs.List.{list_all, list_any, range_with_len}
use borrow.Author.Tests.{eqb-true, eqb-false, not-true, not-false}
use Rattle.model.specs.Bounded.{every, any, least, highest}
use Rattle.model.proofs.Bools.{and_left, and_right, or_elim, cond-holds}

-- What holds of each number below n and of n holds of each below suc n.
below_suc : (P : ℕ → Type 0) (n i : ℕ) → (i < n → P i) → P n → i < suc n → P i
below_suc P n i f p l = go (eqb i n) refl
  where
    go : (b : Bool) → eqb i n ≡ b → P i
    go true e = rw (eqb-true i n e) p
    go false e = f (let ne : (i ≡ n → ⊥) = eqb-false i n e in omega arith)

-- `every`: at each number, and back.
pub every-at : (n : ℕ) (f : ℕ → Bool) → every n f ≡ true → (i : ℕ) → i < n → f i ≡ true
unfolding every
every-at zero f h i l = absurd (omega arith)
every-at (suc n) f h i l = below_suc (λ j. f j ≡ true) n i (every-at n f (and_left (every n f) (f n) h) i) (and_right (every n f) (f n) h) l

pub every-all : (n : ℕ) (f : ℕ → Bool) → ((i : ℕ) → i < n → f i ≡ true) → every n f ≡ true
unfolding every
every-all zero f h = refl
every-all (suc n) f h = rw (every-all n f (λ i l. h i (omega arith)), h n (omega arith))

pub every-cong : (n : ℕ) (f g : ℕ → Bool) → ((i : ℕ) → i < n → f i ≡ g i) → every n f ≡ every n g
unfolding every
every-cong zero f g h = refl
every-cong (suc n) f g h = rw (every-cong n f g (λ i l. h i (omega arith)), h n (omega arith))

-- Two tests of each number, made together and one after the other.
pub every-and : (n : ℕ) (f g : ℕ → Bool) → every n (λ i. f i && g i) ≡ (every n f && every n g)
unfolding every
every-and zero f g = refl
every-and (suc n) f g = ap (λ b. b && (f n && g n)) (every-and n f g) ∙ exchange (every n f) (every n g) (f n) (g n)
  where
    exchange : (a b c d : Bool) → (a && b && (c && d)) ≡ (a && c && (b && d))
    exchange a true c d = simp (and-true, and_assoc)
    exchange a false c d = simp and-false

-- The same made from the front, and over the list of the numbers.
every-front : (n : ℕ) (f : ℕ → Bool) → every (suc n) f ≡ (f 0 && every n (λ i. f (suc i)))
unfolding every
every-front zero f = sym (and-true (f 0))
every-front (suc n) f = ap (λ b. b && f (suc n)) (every-front n f) ∙ and_assoc (f 0) (every n (λ i. f (suc i))) (f (suc n))

pub all-range : (a n : ℕ) (f g : ℕ → Bool) → ((i : ℕ) → i < n → f (a + i) ≡ g i) → list_all f (range_with_len a n) ≡ every n g
unfolding every
all-range a zero f g h = refl
all-range a (suc n) f g h =
    let first : f a ≡ g 0 = ap f (let e : a ≡ a + 0 = omega arith in e) ∙ h 0 (omega arith) in
    let more : list_all f (range_with_len (a + 1) n) ≡ every n (λ i. g (suc i)) = all-range (a + 1) n f (λ i. g (suc i)) (λ i l. ap f (let e : a + 1 + i ≡ a + suc i = omega arith in e) ∙ h (suc i) (omega arith)) in
    rw (first, more) (sym (every-front n g))

-- Some number passes where not every one fails: so the laws of `any` are those of `every`.
any-every : (n : ℕ) (f : ℕ → Bool) → any n f ≡ not (every n (λ i. not (f i)))
unfolding any every
any-every zero f = refl
any-every (suc n) f = ap (λ b. b || f n) (any-every n f) ∙ go (every n (λ i. not (f i))) (f n)
  where
    go : (a b : Bool) → (not a || b) ≡ not (a && not b)
    go true true = refl
    go true false = refl
    go false b = refl

-- `any` that fails: at each number, and back.
pub any_at : (n : ℕ) (f : ℕ → Bool) → any n f ≡ false → (i : ℕ) → i < n → f i ≡ false
any_at n f h i l = not-true (f i) (every-at n (λ j. not (f j)) (not-false _ (sym (any-every n f) ∙ h)) i l)

pub any_none : (n : ℕ) (f : ℕ → Bool) → ((i : ℕ) → i < n → f i ≡ false) → any n f ≡ false
any_none n f h = any-every n f ∙ ap not (every-all n (λ i. not (f i)) (λ i l. ap not (h i l)))

-- Some number of a range passes, where 0 is left out.
any-front : (n : ℕ) (f : ℕ → Bool) → any (suc n) f ≡ (f 0 || any n (λ i. f (suc i)))
unfolding any
any-front zero f = go (f 0)
  where
    go : (b : Bool) → (false || b) ≡ (b || false)
    go true = refl
    go false = refl
any-front (suc n) f = ap (λ b. b || f (suc n)) (any-front n f) ∙ go (f 0) (any n (λ i. f (suc i))) (f (suc n))
  where
    go : (a b c : Bool) → ((a || b) || c) ≡ (a || (b || c))
    go true b c = refl
    go false b c = refl

pub any-range : (a n : ℕ) (f g : ℕ → Bool) → ((i : ℕ) → i < n → f (a + i) ≡ g i) → list_any f (range_with_len a n) ≡ any n g
unfolding any
any-range a zero f g h = refl
any-range a (suc n) f g h =
    let first : f a ≡ g 0 = ap f (let e : a ≡ a + 0 = omega arith in e) ∙ h 0 (omega arith) in
    let more : list_any f (range_with_len (a + 1) n) ≡ any n (λ i. g (suc i)) = any-range (a + 1) n f (λ i. g (suc i)) (λ i l. ap f (let e : a + 1 + i ≡ a + suc i = omega arith in e) ∙ h (suc i) (omega arith)) in
    rw (first, more) (sym (any-front n g))

pub any-above : (n : ℕ) (f : ℕ → Bool) → f 0 ≡ false → list_any f (range_with_len 1 n) ≡ any (suc n) f
any-above n f none = any-range 1 n f (λ i. f (suc i)) (λ i l. ap f (let e : 1 + i ≡ suc i = omega arith in e)) ∙ ap (λ b. b || any n (λ i. f (suc i))) (sym none) ∙ sym (any-front n f)

pub any-cong : (n : ℕ) (f g : ℕ → Bool) → ((i : ℕ) → i < n → f i ≡ g i) → any n f ≡ any n g
any-cong n f g h = any-every n f ∙ ap not (every-cong n _ _ (λ i l. ap not (h i l))) ∙ sym (any-every n g)

pub any-has : (n : ℕ) (f : ℕ → Bool) (i : ℕ) → i < n → f i ≡ true → any n f ≡ true
any-has n f i l h = go (any n f) refl
  where
    go : (b : Bool) → any n f ≡ b → b ≡ true
    go true e = refl
    go false e = sym (any_at n f e i l) ∙ h

pub any-grows : (n : ℕ) (f g : ℕ → Bool) → ((i : ℕ) → i < n → f i ≡ true → g i ≡ true) → any n f ≡ true → any n g ≡ true
unfolding any
any-grows zero f g h e = e
any-grows (suc n) f g h e = or_elim (any n f) (f n) (λ a. rw (any-grows n f g (λ i l. h i (omega arith)) a)) (λ b. rw (h n (omega arith) b, or-true)) e

-- What `least` finds passes; if it finds nothing, it is the bound.
pub least-le : (n : ℕ) (f : ℕ → Bool) → least n f ≤ n
unfolding least
least-le zero f = omega arith
least-le (suc n) f = cond-holds (λ k. k ≤ suc n) (f 0) 0 (suc (least n (λ i. f (suc i)))) (omega arith) (omega (arith, least-le n (λ i. f (suc i))))

pub least-found : (n : ℕ) (f : ℕ → Bool) → least n f < n → f (least n f) ≡ true
unfolding least
least-found zero f h = absurd (omega arith)
least-found (suc n) f h = go (f 0) refl (least-found n (λ i. f (suc i))) h
  where
    go : (b : Bool) → f 0 ≡ b → (least n (λ i. f (suc i)) < n → f (suc (least n (λ i. f (suc i)))) ≡ true) → cond b 0 (suc (least n (λ i. f (suc i)))) < suc n → f (cond b 0 (suc (least n (λ i. f (suc i))))) ≡ true
    go true e r l = e
    go false e r l = r (omega arith)

-- A number that passes, with none below it that does, is what `least` finds.
pub least-is : (n m : ℕ) (f : ℕ → Bool) → m < n → f m ≡ true → ((k : ℕ) → k < m → f k ≡ false) → least n f ≡ m
unfolding least
least-is zero m f l e h = absurd (omega arith)
least-is (suc n) zero f l e h = rw e
least-is (suc n) (suc m) f l e h = rw (h 0 (omega arith), least-is n m (λ i. f (suc i)) (omega arith) e (λ k q. h (suc k) (omega arith)))

pub least-none : (n : ℕ) (f : ℕ → Bool) → ((k : ℕ) → k < n → f k ≡ false) → least n f ≡ n
unfolding least
least-none zero f h = refl
least-none (suc n) f h = rw (h 0 (omega arith), least-none n (λ i. f (suc i)) (λ k q. h (suc k) (omega arith)))

-- What `highest` finds is below n and passes.
pub highest-found : (n : ℕ) (f : ℕ → Bool) → eqb (highest n f) 0 ≡ false → (highest n f < n) × (f (highest n f) ≡ true)
unfolding highest
highest-found zero f h = absurd (eqb-false 0 0 h refl)
highest-found (suc n) f h = go (f n) refl (highest-found n f) h
  where
    go : (b : Bool) → f n ≡ b → (eqb (highest n f) 0 ≡ false → (highest n f < n) × (f (highest n f) ≡ true)) → eqb (cond b n (highest n f)) 0 ≡ false → (cond b n (highest n f) < suc n) × (f (cond b n (highest n f)) ≡ true)
    go true e r d = (omega arith, e)
    go false e r d = let q = r d in (omega arith, q.1)

-- It is below the bound, and goes by the numbers below it.
pub highest-le : (n : ℕ) (f : ℕ → Bool) → highest (suc n) f ≤ n
unfolding highest
highest-le zero f = cond-holds (λ k. k ≤ 0) (f 0) 0 0 (omega arith) (omega arith)
highest-le (suc n) f = cond-holds (λ k. k ≤ suc n) (f (suc n)) (suc n) (highest (suc n) f) (omega arith) (omega (arith, highest-le n f))

pub highest-cong : (n : ℕ) (f g : ℕ → Bool) → ((i : ℕ) → i < n → f i ≡ g i) → highest n f ≡ highest n g
unfolding highest
highest-cong zero f g h = refl
highest-cong (suc n) f g h = rw (h n (omega arith), highest-cong n f g (λ i l. h i (omega arith)))

-- Numbers that fail are passed over.
highest-skip : (n m : ℕ) (f : ℕ → Bool) → m ≤ n → ((k : ℕ) → m ≤ k → k < n → f k ≡ false) → highest n f ≡ highest m f
unfolding highest
highest-skip zero m f l h = let e : m ≡ 0 = omega arith in rw e
highest-skip (suc n) m f l h = go (eqb m (suc n)) refl (λ q. highest-skip n m f q (λ k a b. h k a (omega arith)))
  where
    go : (b : Bool) → eqb m (suc n) ≡ b → (m ≤ n → highest n f ≡ highest m f) → cond (f n) n (highest n f) ≡ highest m f
    go true e r = rw (eqb-true m (suc n) e)
    go false e r = let ne : (m ≡ suc n → ⊥) = eqb-false m (suc n) e in rw (h n (omega arith) (omega arith)) (r (omega arith))

-- A number that passes, with none above it that does, is what `highest` finds; where none passes it finds 0.
pub highest-is : (n m : ℕ) (f : ℕ → Bool) → m < n → f m ≡ true → ((k : ℕ) → m < k → k < n → f k ≡ false) → highest n f ≡ m
unfolding highest
highest-is n m f l e h = highest-skip n (suc m) f l (λ k a b. h k (omega arith) b) ∙ rw e

pub highest-none : (n : ℕ) (f : ℕ → Bool) → ((k : ℕ) → k < n → f k ≡ false) → highest n f ≡ 0
unfolding highest
highest-none n f h = highest-skip n 0 f (omega arith) (λ k a b. h k b)

-- What is above the number that it finds fails.
pub highest-above : (n : ℕ) (f : ℕ → Bool) (k : ℕ) → highest n f < k → k < n → f k ≡ false
unfolding highest
highest-above zero f k l b = absurd (omega arith)
highest-above (suc n) f k l b = go (f n) refl (eqb k n) refl l (λ q r. highest-above n f k q r)
  where
    go : (p : Bool) → f n ≡ p → (d : Bool) → eqb k n ≡ d → cond p n (highest n f) < k → (highest n f < k → k < n → f k ≡ false) → f k ≡ false
    go true e d s q r = absurd (omega arith)
    go false e true s q r = rw (eqb-true k n s) e
    go false e false s q r = let ne : (k ≡ n → ⊥) = eqb-false k n s in r q (omega arith)
