-- Laws of the searches over a processor's four levels, written out level by level: the next level up for a call, and the level
-- that waits after a return (01, "Events": call, ret). Level 0 is above no level. Assumes nothing.
use Rattle.std.proofs.Common.{◌≡◌, ℕ, ◌<◌, ◌≤◌, Bool, true, false, cond, not, ◌&&◌, eqb, ltb, refl, arith, le-ltb, ne_eqb}
use Rattle.std.proofs.lemmas.Bool.{eqb-true, eqb-false}
use Rattle.std.specs.Option.{option_map}
use Rattle.std.specs.Prelude.{Option, Some, None}
use Rattle.model.proofs.BoundedLaws.{highest-is, highest-none}
use Rattle.model.proofs.Searches.{first-found, none-found}
use Rattle.model.specs.declared.machine.Shape.{Shape}
use Rattle.model.specs.declared.machine.VirtualProcessor.{VirtualProcessor}
use Rattle.model.specs.declared.quantity.Level.{Level}
use Rattle.model.specs.Entry.{highest_ready, next_up, waiting}
use Rattle.model.specs.State.{level, level_found, above_zero, active_of, context, enabled_at}

module _ (z : Shape) (p : VirtualProcessor) where
  -- Level l is above the active level and enabled; and it has a ready vector.
  abbrev pub above : ℕ → Bool
  above l = ltb (active_of p) l && enabled_at z p l

  abbrev pub waits : ℕ → Bool
  waits l = ltb (active_of p) l && enabled_at z p l && not (eqb (highest_ready (context z p l)) 0)

  -- Level 0 is above no level.
  pub zero-below : above 0 ≡ false
  zero-below = rw (le-ltb (active_of p) 0 (omega arith))

  pub zero-idle : waits 0 ≡ false
  zero-idle = rw (le-ltb (active_of p) 0 (omega arith))

  pub next-up-at : (l : ℕ) → l < 4 → above l ≡ true → ((k : ℕ) → k < l → above k ≡ false) → Some (level l) ≡ level_found (next_up z p)
  unfolding next_up
  next-up-at l h e below = first-found above l h e below

  pub next-up-none : ((k : ℕ) → k < 4 → above k ≡ false) → ◌≡◌ {A = Option Level} None (level_found (next_up z p))
  unfolding next_up
  next-up-none below = none-found above below

  pub waiting-at : (l : ℕ) → 0 < l → l < 4 → waits l ≡ true → ((k : ℕ) → l < k → k < 4 → waits k ≡ false) → Some (level l) ≡ option_map level (above_zero (waiting z p))
  unfolding waiting above_zero
  waiting-at l s h e over = let some : l ≡ 0 → ⊥ = λ q. omega arith in rw (highest-is 4 l waits h e over, ne_eqb l 0 some)

  pub waiting-none : ((k : ℕ) → 1 ≤ k → k < 4 → waits k ≡ false) → ◌≡◌ {A = Option Level} None (option_map level (above_zero (waiting z p)))
  unfolding waiting above_zero
  waiting-none over = rw (highest-none 4 waits (λ k h. go (eqb k 0) k h refl))
    where
      go : (b : Bool) → (k : ℕ) → k < 4 → eqb k 0 ≡ b → waits k ≡ false
      go true k h e = rw (eqb-true k 0 e) zero-idle
      go false k h e = let some : k ≡ 0 → ⊥ = eqb-false k 0 e in over k (omega arith) h

-- What the number of the level that waits was.
pub waited : (n : ℕ) {l : Level} → option_map level (above_zero n) ≡ Some l → (eqb n 0 ≡ false) × (level n ≡ l)
unfolding above_zero
waited n {l} h = go (eqb n 0) refl h
  where
    go : (b : Bool) → eqb n 0 ≡ b → option_map level (cond b None (Some n)) ≡ Some l → (eqb n 0 ≡ false) × (level n ≡ l)
    go true e q = absurd cc
    go false e q = (e, cc)

pub none-waited : (n : ℕ) → ◌≡◌ {A = Option Level} (option_map level (above_zero n)) None → eqb n 0 ≡ true
unfolding above_zero
none-waited n h = go (eqb n 0) refl h
  where
    go : (b : Bool) → eqb n 0 ≡ b → ◌≡◌ {A = Option Level} (option_map level (cond b None (Some n))) None → eqb n 0 ≡ true
    go true e q = e
    go false e q = absurd cc
