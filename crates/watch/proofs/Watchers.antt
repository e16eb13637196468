-- The level that is told of an access, by the levels 1 to 3 one after the other. Assumes nothing.
use mathlib.Core.Path.{◌≡◌, refl, sym, ap, ◌∙◌}
use mathlib.Core.Bool.{Bool, true, false, ◌&&◌, and-false}
use Prim.Native.Nat.{ℕ, zero, suc, ◌<◌, zero-le}
use Rattle.std.specs.Prelude.{Option, Some, None}
use native.Mathlib.Omega.{arith}
use lib.Dec.{ltb, eqb}
use borrow.Author.Tests.{le-ltb}
use Rattle.model.specs.declared.machine.Shape.{Shape}
use Rattle.model.specs.declared.machine.VirtualProcessor.{VirtualProcessor}
use Rattle.model.specs.declared.machine.Watch.{Watch}
use Rattle.model.specs.Bounded.{least}
use Rattle.model.specs.State.{level, level_found, context, active_of, enabled_at}
use Rattle.model.specs.declared.quantity.Level.{Level}
use Rattle.model.proofs.BoundedLaws.{least-none}
use Rattle.model.proofs.Searches.{first-found}
use Rattle.model.specs.Watching.{asks_read, asks_write, watcher}
use Rattle.watch.specs.Asking.{asks_for}
use Rattle.watch.specs.declared.asking.RegisterAccess.{RegisterAccess}
use Rattle.watch.specs.declared.asking.RegisterAccess.TheVariants.{Read, Write}
use Rattle.watch.proofs.TableRows.{zero-asks}

module _ (z : Shape) (p : VirtualProcessor) (g : ℕ) (asks : Watch → Bool) where
  -- Level t is above g and enabled, and asks.
  abbrev pub hearing : ℕ → Bool
  hearing t = ltb g t && enabled_at z p t && asks (context z p t).watch

  -- No level is told where the target is not the actor, nor by a level at or below it.
  pub not_own : eqb g (active_of p) ≡ false → watcher z p g asks ≡ 4
  unfolding watcher least
  not_own e = rw e

  pub zero-hears : hearing 0 ≡ false
  zero-hears = rw (le-ltb g 0 zero-le)

  -- Where it is, the first level that hears is told; none is where none of the four hears.
  module _ (own : eqb g (active_of p) ≡ true) where
    same : (t : ℕ) → hearing t ≡ (eqb g (active_of p) && ltb g t && enabled_at z p t && asks (context z p t).watch)
    same t = rw own

    pub told : (t : ℕ) → t < 4 → hearing t ≡ true → ((k : ℕ) → k < t → hearing k ≡ false) → Some (level t) ≡ level_found (watcher z p g asks)
    unfolding watcher
    told t h e below = first-found _ t h (sym (same t) ∙ e) (λ k l. sym (same k) ∙ below k l)

    pub none_hears : ((k : ℕ) → k < 4 → hearing k ≡ false) → watcher z p g asks ≡ 4
    unfolding watcher
    none_hears below = least-none 4 _ (λ k l. sym (same k) ∙ below k l)

-- The number 4 says that no level was found.
pub not-found : {n : ℕ} → n ≡ 4 → ◌≡◌ {A = Option Level} None (level_found n)
unfolding level_found
not-found e = rw e

-- A level whose word is 0 asks for nothing, and where all words are 0 no level is told.
pub none-asks : (access : RegisterAccess) (w : Watch) → w.intercepts ≡ 0 → asks_for access w ≡ false
unfolding asks_read asks_write
none-asks (Read r) w e = rw (e, zero-asks)
none-asks (Write r old new) w e = rw (e, zero-asks)

pub none_told : (z : Shape) (p : VirtualProcessor) (g : ℕ) (access : RegisterAccess) → ((t : ℕ) → 0 < t → t < 4 → (context z p t).watch.intercepts ≡ 0)
    → watcher z p g (asks_for access) ≡ 4
none_told z p g access silent = go (eqb g (active_of p)) refl
  where
    quiet : (t : ℕ) → t < 4 → hearing z p g (asks_for access) t ≡ false
    quiet zero k = zero-hears z p g (asks_for access)
    quiet (suc t) k = ap (λ b. ltb g (suc t) && enabled_at z p (suc t) && b) (none-asks access (context z p (suc t)).watch (silent (suc t) (omega arith) k)) ∙ and-false (ltb g (suc t) && enabled_at z p (suc t))

    go : (b : Bool) → eqb g (active_of p) ≡ b → watcher z p g (asks_for access) ≡ 4
    go true e = none_hears z p g (asks_for access) e quiet
    go false e = not_own z p g (asks_for access) e
