-- The set of the levels that deny an access: as code finds it, and as a state has it. Assumes nothing.
use mathlib.Core.Path.{◌≡◌, sym, ap, ◌∙◌}
use mathlib.Core.Bool.{Bool, false, not, cond}
use Prim.Native.Nat.{ℕ, ◌+◌, ◌<◌}
use native.Mathlib.Omega.{arith}
use lib.Dec.{eqb}
use borrow.Author.Tests.{le-ltb}
use Rattle.model.proofs.Sets.{bit-bits, any-bits, upper-bits, bits-cong, least-cong}
use Rattle.model.specs.declared.machine.Partition.{Partition}
use Rattle.model.specs.declared.machine.Shape.{Shape}
use Rattle.model.specs.declared.quantity.Access.{Access}
use Rattle.model.specs.declared.quantity.Mode.{Mode}
use Rattle.model.specs.declared.quantity.Page.{Page}
use Rattle.model.specs.declared.set.LevelSet.{LevelSet}
use Rattle.model.specs.Bounded.{bits}
use Rattle.model.specs.Memory.{denies_in, mbec_counts, denies, denied, receiver}
use Rattle.model.specs.State.{State, level, level_set, shape, pages, partition, active, enabled_on}
use Rattle.partition.specs.declared.access.Attempt.{Attempt}
use Rattle.partition.specs.Denying.{denies_attempt, denying_set, lowest_in}

-- Level 0 denies nothing: the set of the denying levels is that of the three others.
module _ (z : Shape) (P : ℕ) (x : Partition) (mbecs : LevelSet) (a : Attempt) where
  abbrev at : ℕ → Bool
  at t = denies_attempt z P x mbecs a t

  none_at_zero : at 0 ≡ false
  unfolding denies_in
  none_at_zero = rw (le-ltb a.actor.0 0 (omega arith))

  pub denying-three : cond false 1 0 + cond (at 1) 2 0 + cond (at 2) 4 0 + cond (at 3) 8 0 ≡ denying_set z P x mbecs a
  unfolding denying_set
  denying-three = upper-bits at none_at_zero

-- The levels whose MBEC counts for the active level of processor v, and an attempt of that level.
abbrev pub mbecs_on : State → ℕ → ℕ
mbecs_on s v = bits 4 (λ t. mbec_counts s v t (active s v))

abbrev pub attempt_on : State → ℕ → Mode → Page → Access → Attempt
attempt_on s v mode p access = record { actor = level (active s v); mode = mode; page = p; access = access }

module _ (s : State) (v : ℕ) (mode : Mode) (p : Page) (access : Access) where
  abbrev pub denying_on : ℕ
  denying_on = denying_set (shape s) (pages s) (partition s) (level_set (mbecs_on s v)) (attempt_on s v mode p access)

  denies-of : (t : ℕ) → t < 4 → denies_attempt (shape s) (pages s) (partition s) (level_set (mbecs_on s v)) (attempt_on s v mode p access) t ≡ denies s v mode p.0 access t
  unfolding denies
  denies-of t h = rw (bit-bits 4 (λ t. mbec_counts s v t (active s v)) t h)

  denying-set-of : bits 4 (λ t. denies s v mode p.0 access t) ≡ denying_on
  unfolding denying_set
  denying-set-of = sym (bits-cong 4 _ _ denies-of)

  -- Some level denies it where the set is not empty.
  pub denied-of : denied s v mode p.0 access ≡ not (eqb denying_on 0)
  unfolding denied
  denied-of = any-bits 4 (λ t. denies s v mode p.0 access t) ∙ ap (λ n. not (eqb n 0)) denying-set-of

  -- The lowest of the set that is enabled on v receives the intercept.
  pub receiver-of : receiver s v mode p.0 access ≡ lowest_in denying_on (bits 4 (λ t. enabled_on s v t))
  unfolding receiver lowest_in
  receiver-of =
      least-cong 4 _ _ (λ t h. rw (bit-bits 4 (λ t. denies s v mode p.0 access t) t h, bit-bits 4 (λ t. enabled_on s v t) t h))
      ∙ ap (λ n. lowest_in n (bits 4 (λ t. enabled_on s v t))) denying-set-of
