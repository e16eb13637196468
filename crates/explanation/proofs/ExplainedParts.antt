-- The explanation by the parts that the function is given. Assumes nothing.
use Rattle.std.specs.Prelude.{Option}
use mathlib.Core.Path.{◌≡◌, refl, sym, ap, ◌∙◌}
use mathlib.Core.Bool.{Bool, true, false, not, cond, ◌&&◌, and-true, and-false}
use Prim.Native.Nat.{ℕ, ◌<◌}
use native.Mathlib.Omega.{arith}
use lib.Dec.{eqb}
use Rattle.word.specs.Field.{bit}
use Rattle.model.proofs.Sets.{bit-bits, bits-cong}
use Rattle.model.specs.declared.machine.Partition.{Partition}
use Rattle.model.specs.declared.machine.Shape.{Shape}
use Rattle.model.specs.declared.machine.VirtualProcessor.{VirtualProcessor}
use Rattle.model.specs.declared.quantity.Access.{Access}
use Rattle.model.specs.declared.quantity.Level.{Level}
use Rattle.model.specs.declared.quantity.Mode.{Mode}
use Rattle.model.specs.declared.quantity.Page.{Page}
use Rattle.model.specs.declared.set.LevelSet.{LevelSet}
use Rattle.model.specs.Bounded.{bits}
use Rattle.model.specs.Memory.{mbec_on, smep_allows, mbec_counts, denies, denied, receiver, host_denies, host_denies_by}
use Rattle.model.specs.State.{State, level, vp, active_of, active, enabled_at, enabled_on, mask_in, mask_of, host_mask_of, secure_of, mbec_bit, level_found}
use Rattle.partition.proofs.DenyingLevels.{mbecs_on, attempt_on, denying_on, denied-of, receiver-of}
use Rattle.partition.specs.Denying.{denying_set, lowest_in}
use Rattle.promise.specs.Promise.{Acts}
use Rattle.access_events.specs.Counting.{counted_set}
use Rattle.explanation.specs.declared.Denial.{Denial}
use Rattle.explanation.specs.declared.Explanation.TheVariants.{Levels}
use Rattle.explanation.specs.Explained.{denial_by, denial_of, host_only, explanation_of}

-- The set of the levels whose MBEC is on, where SMEP allows it to count, has each level whose MBEC counts.
no-levels : bits 4 (λ t. false) ≡ 0
unfolding bits
no-levels = refl

counted-by-test : (on : ℕ → Bool) (allowed : Bool) → bits 4 (λ t. on t && allowed) ≡ cond allowed (bits 4 on) 0
counted-by-test on true = bits-cong 4 _ _ (λ t i. and-true (on t))
counted-by-test on false = bits-cong 4 (λ t. on t && false) (λ t. false) (λ t i. and-false (on t)) ∙ no-levels

-- Level t is in the set of the levels that deny an access where it denies it.
bit-denies : (s : State) (v : ℕ) (mode : Mode) (page : Page) (access : Access) (t : ℕ) → t < 4
    → bit (denying_on s v mode page access) t ≡ denies s v mode page.0 access t
unfolding denying_set denies
bit-denies s v mode page access t h = bit-bits 4 _ t h ∙ rw (bit-bits 4 (λ t. mbec_counts s v t (active s v)) t h)

module _ {z : Shape} {P : ℕ} {x : Partition} {p : VirtualProcessor} {s : State} {v : ℕ} (acts : Acts z P x (active_of p) s v) (holds : vp s v ≡ p)
    (mode : Mode) (page : Page) (access : Access) (actor : Level) (acting : actor.0 ≡ active_of p)
    (mbecs : LevelSet) (counted : mbecs.0 ≡ counted_set z p actor.0)
    (denying : ℕ) (d : denying ≡ denying_set z P x mbecs (record { actor = actor; mode = mode; page = page; access = access })) where
  mbecs-are : mbecs_on s v ≡ mbecs.0
  unfolding mbec_counts mbec_on counted_set
  mbecs-are =
      rw (acts.actor, acts.shaped, holds, counted, acting)
      (counted-by-test (λ t. bit (secure_of z p t (active_of p)) mbec_bit) (smep_allows z p (active_of p)))

  attempt-is : attempt_on s v mode page access ≡ record { actor = actor; mode = mode; page = page; access = access }
  attempt-is = ap (λ l. record { actor = level l; mode = mode; page = page; access = access }) (acts.actor ∙ sym acting)

  denying-is : denying_on s v mode page access ≡ denying
  denying-is = rw (acts.shaped, acts.paged, acts.keeps, mbecs-are, attempt-is, ← d)

  denied-is : denied s v mode page.0 access ≡ not (eqb denying 0)
  denied-is = denied-of s v mode page access ∙ ap (λ n. not (eqb n 0)) denying-is

  receiver-is : receiver s v mode page.0 access ≡ lowest_in denying (bits 4 (λ t. enabled_at z p t))
  unfolding enabled_on
  receiver-is = receiver-of s v mode page access ∙ rw (denying-is, acts.shaped, holds)

  -- What level t says of the access.
  abbrev denial_at : ℕ → Option Denial
  denial_at t = denial_by (bit denying t) (mask_in z P x.masks t page.0) (bit mbecs.0 t) mode access

  denial-is : (t : ℕ) → t < 4 → denial_of s v mode page.0 access t ≡ denial_at t
  unfolding denial_of mask_of
  denial-is t h =
      let a : bit denying t ≡ denies s v mode page.0 access t = ap (λ n. bit n t) (sym denying-is) ∙ bit-denies s v mode page access t h in
      let b : bit mbecs.0 t ≡ mbec_counts s v t (active s v) = ap (λ n. bit n t) (sym mbecs-are) ∙ bit-bits 4 (λ t. mbec_counts s v t (active s v)) t h in
      rw (← a, ← b, acts.shaped, acts.paged, acts.keeps)

  -- No level denies.
  pub host-explained : (k : ℕ) → host_mask_of s page.0 ≡ k → eqb denying 0 ≡ true → explanation_of s v mode page.0 access ≡ host_only (host_denies_by k access)
  unfolding explanation_of host_denies
  host-explained k q none = rw (denied-is, none, q)

  -- Some level does.
  pub levels-explained : eqb denying 0 ≡ false
      → explanation_of s v mode page.0 access ≡ Levels (level_found (lowest_in denying (bits 4 (λ t. enabled_at z p t)))) (denial_at 1) (denial_at 2) (denial_at 3)
  unfolding explanation_of
  levels-explained some = rw (denied-is, some, receiver-is, denial-is 1 (omega arith), denial-is 2 (omega arith), denial-is 3 (omega arith))
