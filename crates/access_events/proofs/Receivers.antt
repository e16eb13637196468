-- Who denies an access and who receives the intercept, by the parts that the function is given. Assumes nothing.
use mathlib.Core.Path.{◌≡◌, refl, sym, ap, ◌∙◌}
use mathlib.Core.Bool.{Bool, true, false, not, cond, ◌&&◌, and-true, and-false}
use Prim.Native.Nat.{ℕ, ◌<◌}
use lib.Dec.{eqb}
use Rattle.word.specs.Field.{bit}
use Rattle.model.proofs.Sets.{bit-bits, bits-cong}
use Rattle.model.specs.declared.machine.Partition.{Partition}
use Rattle.model.specs.declared.machine.Shape.{Shape}
use Rattle.model.specs.declared.machine.VirtualProcessor.{VirtualProcessor}
use Rattle.model.specs.declared.quantity.Access.{Access}
use Rattle.model.specs.declared.quantity.Access.TheVariants.{Read, Write, Fetch}
use Rattle.model.specs.declared.quantity.Level.{Level}
use Rattle.model.specs.declared.quantity.Mode.{Mode}
use Rattle.model.specs.declared.quantity.Mode.TheVariants.{Kernel, User}
use Rattle.model.specs.declared.quantity.Page.{Page}
use Rattle.model.specs.declared.set.LevelSet.{LevelSet}
use Rattle.model.specs.Bounded.{bits}
use Rattle.model.specs.Memory.{is_user, needed, mbec_on, smep_allows, mbec_counts, denies_in, denied, receiver}
use Rattle.model.specs.State.{State, level, level_set, active_of, enabled_at, enabled_on, secure_of, mbec_bit}
use Rattle.partition.proofs.DenyingLevels.{denying_on, denied-of, receiver-of}
use Rattle.partition.specs.declared.access.Attempt.{Attempt}
use Rattle.partition.specs.Denying.{denying_set, lowest_in}
use Rattle.promise.proofs.Outcomes.{the-enabled-on}
use Rattle.promise.specs.Promise.{Runs, Acts}
use Rattle.access_events.specs.Counting.{is_user_fetch, counted_set, counting_set}

-- MBEC is on for each level of a set, and SMEP is unavailable or on as `allowed` tells: the needed bit of a user fetch by the set of those
-- whose MBEC counts. Another access needs one bit whatever counts.
needed-by-set : (on : ℕ → Bool) (allowed : Bool) (mode : Mode) (access : Access) (t : ℕ) → t < 4
    → needed (bit (cond (is_user_fetch mode access) (cond allowed (bits 4 on) 0) 0) t) mode access ≡ needed (on t && allowed) mode access
unfolding needed is_user bits
needed-by-set on allowed mode Read t h = refl
needed-by-set on allowed mode Write t h = refl
needed-by-set on allowed Kernel Fetch t h = rw (and-false, and-false)
needed-by-set on true User Fetch t h = ap (λ b. needed b User Fetch) (bit-bits 4 on t h ∙ sym (and-true (on t)))
needed-by-set on false User Fetch t h = ap (λ b. needed b User Fetch) (bit-bits 4 (λ t. false) t h ∙ sym (and-false (on t)))

module _ {z : Shape} {P : ℕ} {x : Partition} {p : VirtualProcessor} {s : State} {v : ℕ} (h : Runs z p s v) (k : Acts z P x (active_of p) s v)
    (mode : Mode) (page : Page) (access : Access) (actor : Level) (acts : actor.0 ≡ active_of p) (mbecs : LevelSet)
    (mbec : mbecs.0 ≡ counting_set z p (record { actor = actor; mode = mode; page = page; access = access })) where
  abbrev attempt : Attempt
  attempt = record { actor = actor; mode = mode; page = page; access = access }

  actor-by : level (active_of p) ≡ actor
  actor-by = ap level (sym acts)

  counted : (t : ℕ) → t < 4 → needed (bit mbecs.0 t) mode access ≡ needed (mbec_counts s v t (active_of p)) mode access
  unfolding mbec_counts mbec_on counting_set counted_set
  counted t i = rw (mbec, h.shaped, h.holds, ← acts) (needed-by-set (λ t. bit (secure_of z p t actor.0) mbec_bit) (smep_allows z p actor.0) mode access t i)

  same-denying : denying_set z P x (level_set (bits 4 (λ t. mbec_counts s v t (active_of p)))) attempt ≡ denying_set z P x mbecs attempt
  unfolding denying_set denies_in
  same-denying = bits-cong 4 _ _ (λ t i. rw (bit-bits 4 (λ t. mbec_counts s v t (active_of p)) t i, counted t i))

  denying-by : denying_on s v mode page access ≡ denying_set z P x mbecs attempt
  denying-by = rw (k.shaped, k.paged, k.keeps, k.actor, actor-by) same-denying

  module _ (denying : ℕ) (d : denying ≡ denying_set z P x mbecs attempt) where
    -- Some level denies it where the set is not empty.
    pub denied-by : denied s v mode page.0 access ≡ not (eqb denying 0)
    denied-by = denied-of s v mode page access ∙ ap (λ n. not (eqb n 0)) (denying-by ∙ sym d)

    -- The lowest of the set that is enabled on v receives the intercept.
    pub receiver-by : (enabled r : ℕ) → enabled ≡ bits 4 (λ l. enabled_at z p l) → r ≡ lowest_in denying enabled → receiver s v mode page.0 access ≡ r
    receiver-by enabled r e l =
        receiver-of s v mode page access ∙ rw (denying-by, ← d, bits-cong 4 (λ t. enabled_on s v t) (λ t. enabled_at z p t) (λ t i. the-enabled-on h t), ← e, ← l)
