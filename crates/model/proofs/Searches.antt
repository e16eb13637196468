-- What a search for a level answers, as a number and as an option. Assumes nothing.
use Rattle.std.proofs.Common.{◌≡◌, ℕ, ◌<◌, Bool, true, false, cond, not, eqb, ltb, refl, lt-ltb}
use Rattle.std.specs.Option.{is_some}
use Rattle.std.specs.Prelude.{Option, Some, None}
use Rattle.model.specs.Bounded.{least}
use Rattle.model.specs.State.{Level, level, level_found, above_zero}
use Rattle.model.proofs.BoundedLaws.{least-is, least-none}

-- The first level that passes is found; where none of the four does, none is.
pub first-found : (f : ℕ → Bool) (l : ℕ) → l < 4 → f l ≡ true → ((k : ℕ) → k < l → f k ≡ false) → Some (level l) ≡ level_found (least 4 f)
unfolding level_found
first-found f l h e below = rw (least-is 4 l f h e below, lt-ltb l 4 h)

pub none-found : (f : ℕ → Bool) → ((k : ℕ) → k < 4 → f k ≡ false) → ◌≡◌ {A = Option Level} None (level_found (least 4 f))
unfolding level_found
none-found f below = rw (least-none 4 f below)

-- What the number was, where a level was found, and where none was.
pub number-found : (n : ℕ) {l : Level} → level_found n ≡ Some l → (ltb n 4 ≡ true) × (level n ≡ l)
unfolding level_found
number-found n {l} h = go (ltb n 4) refl h
  where
    go : (b : Bool) → ltb n 4 ≡ b → cond b (Some (level n)) None ≡ Some l → (ltb n 4 ≡ true) × (level n ≡ l)
    go true e q = (e, cc)
    go false e q = absurd cc

pub number-past : (n : ℕ) → ◌≡◌ {A = Option Level} (level_found n) None → ltb n 4 ≡ false
unfolding level_found
number-past n h = go (ltb n 4) refl h
  where
    go : (b : Bool) → ltb n 4 ≡ b → ◌≡◌ {A = Option Level} (cond b (Some (level n)) None) None → ltb n 4 ≡ false
    go true e q = absurd cc
    go false e q = e

-- The same of a search that gives 0 where there is none.
pub number-above : (n : ℕ) {m : ℕ} → above_zero n ≡ Some m → (eqb n 0 ≡ false) × (n ≡ m)
unfolding above_zero
number-above n {m} h = go (eqb n 0) refl h
  where
    go : (b : Bool) → eqb n 0 ≡ b → cond b None (Some n) ≡ Some m → (eqb n 0 ≡ false) × (n ≡ m)
    go true e q = absurd cc
    go false e q = (e, cc)

pub number-zero : (n : ℕ) → ◌≡◌ {A = Option ℕ} (above_zero n) None → eqb n 0 ≡ true
unfolding above_zero
number-zero n h = go (eqb n 0) refl h
  where
    go : (b : Bool) → eqb n 0 ≡ b → ◌≡◌ {A = Option ℕ} (cond b None (Some n)) None → eqb n 0 ≡ true
    go true e q = e
    go false e q = absurd cc

pub some-above : (n : ℕ) → is_some (above_zero n) ≡ not (eqb n 0)
unfolding above_zero
some-above n = go (eqb n 0)
  where
    go : (b : Bool) → is_some (cond b None (Some n)) ≡ not b
    go true = refl
    go false = refl
