-- What the searches on one processor find, and what keeps its active level. Assumes nothing.
use mathlib.Core.Path.{◌≡◌, refl, ap}
use Rattle.std.specs.Prelude.{Option, Some, None}
use mathlib.Core.Bool.{true, false, not, ◌&&◌}
use Prim.Native.Nat.{ℕ, ◌≤◌, ◌<◌}
use native.Mathlib.Omega.{arith}
use lib.Dec.{ltb, eqb}
use borrow.Author.Tests.{ltb-true, ltb-false, eq-eqb, ne_eqb, eqb-false}
use Rattle.model.specs.Entry.{highest_ready, next_up, advanced, waiting}
use Rattle.model.specs.declared.quantity.Level.{Level}
use Rattle.model.proofs.Searches.{number-found, number-past}
use Rattle.model.specs.State.{level_found, Shape, VirtualProcessor, is_level, context, active_of, enabled_at}
use Rattle.model.specs.Updates.{put_context, set_private, unlocked}
use Rattle.model.proofs.Bools.{and_left, and_right}
use Rattle.model.proofs.LevelSets.{in-level}
use Rattle.model.proofs.BoundedLaws.{least-le, least-found, highest-found}

module _ (z : Shape) where
  -- A level that is enabled is one of the machine's.
  pub enabled-level : (p : VirtualProcessor) (l : ℕ) → enabled_at z p l ≡ true → is_level z l ≡ true
  unfolding enabled_at
  enabled-level p l h = in-level z p.enabled l h

  -- What the search for the next level up finds, and that for a waiting level.
  pub next_up-found : (p : VirtualProcessor) → eqb (next_up z p) 4 ≡ false → (active_of p < next_up z p) × (enabled_at z p (next_up z p) ≡ true)
  unfolding next_up
  next_up-found p h =
      let b : (next_up z p ≡ 4 → ⊥) = eqb-false (next_up z p) 4 h in
      let f = least-found 4 (λ l. ltb (active_of p) l && enabled_at z p l) (omega (arith, least-le 4 (λ l. ltb (active_of p) l && enabled_at z p l))) in
      (ltb-true (active_of p) (next_up z p) (and_left (ltb (active_of p) (next_up z p)) _ f), and_right (ltb (active_of p) (next_up z p)) _ f)

  -- The same of its answer as an option.
  pub next_up-some : (p : VirtualProcessor) {l : Level} → level_found (next_up z p) ≡ Some l → (eqb (next_up z p) 4 ≡ false) × (next_up z p ≡ l.0)
  next_up-some p h =
      let found = number-found (next_up z p) h in
      (ne_eqb (next_up z p) 4 (λ e. omega (arith, ltb-true (next_up z p) 4 found.0)), ap (λ l. l.0) found.1)

  next_up-le : (p : VirtualProcessor) → next_up z p ≤ 4
  unfolding next_up
  next_up-le p = least-le 4 (λ l. ltb (active_of p) l && enabled_at z p l)

  pub next_up-none : (p : VirtualProcessor) → ◌≡◌ {A = Option Level} (level_found (next_up z p)) None → eqb (next_up z p) 4 ≡ true
  next_up-none p h = eq-eqb (next_up z p) 4 (omega (arith, ltb-false (next_up z p) 4 (number-past (next_up z p) h), next_up-le p))

  pub waiting-found : (p : VirtualProcessor) → eqb (waiting z p) 0 ≡ false → (active_of p < waiting z p) × (enabled_at z p (waiting z p) ≡ true)
  unfolding waiting
  waiting-found p h =
      let f = highest-found 4 (λ l. ltb (active_of p) l && enabled_at z p l && not (eqb (highest_ready (context z p l)) 0)) h in
      let q = and_left (ltb (active_of p) (waiting z p) && enabled_at z p (waiting z p)) _ f.1 in
      (ltb-true (active_of p) (waiting z p) (and_left (ltb (active_of p) (waiting z p)) _ q), and_right (ltb (active_of p) (waiting z p)) _ q)

  -- The active level stays where RIP grows, and where locks are cleared.
  pub advanced-active : (p : VirtualProcessor) (n : ℕ) → active_of (advanced z p n) ≡ active_of p
  unfolding advanced set_private put_context active_of
  advanced-active p n = refl

  pub unlocked-active : (p : VirtualProcessor) (t : ℕ) → active_of (unlocked z p t) ≡ active_of p
  unfolding unlocked put_context active_of
  unlocked-active p t = refl
