-- What the list of an event's conditions gives: the refusals rise, the smallest number is given, a refusal changes nothing and
-- an intercept is entry alone. Assumes nothing.
use mathlib.Core.Path.{◌≡◌, refl, sym, ap, subst}
use mathlib.Core.Bool.{Bool, true, false, not, cond, ◌&&◌, false≢true, and-false}
use mathlib.Core.List.{List, [], ◌∷◌, ◌++◌}
use mathlib.Core.Option.{some}
use Prim.Native.Nat.{ℕ, ◌≤◌, ◌<◌}
use native.Mathlib.Omega.{arith}
use lib.Dec.{leb, ltb, eqb}
use borrow.Author.Tests.{leb-true, leb-false, ltb-true, eqb-true, eqb-false, eq-eqb}
use Rattle.model.specs.declared.answer.Refusal.TheVariants as refusal
use Rattle.model.specs.Answers.{Answer, Done, Refused, Intercept, Refusal, refusal_number, number_of, value_of, ◌when◌, first_of}
use Rattle.model.specs.Claims.{conditions, rises, applies, Rising, Smallest, Unchanged, Entered, OnlyEntered}
use Rattle.model.specs.Registers.{register_of}
use Rattle.model.specs.Memory.{denies_in, denies, denied, receiver, host_denies}
use Rattle.model.specs.State.{State, Access, Mode, Watch, processors, shape, pages, vp, context, level, no_level, active_of, active, enabled_at, enabled_on}
use Rattle.model.specs.Step.{Event, Enpart, Envp, Call, Ret, Read, Write, Fetch, Protect, Config, Secure, Flush, Rreg, Wreg, Tpr, Ack, Pstat, Vstat, Caps, Cri, Crm, Made, Int, Outcome, rule, rule_of, maker, mode_of, intercepted, next_for, ruled, step}
use Rattle.model.specs.Watching.{asks_read, asks_write, watcher}
use Rattle.model.specs.WellFormed.{well_formed}
use Rattle.model.proofs.Bools.{and_left, and_right, or_elim}
use Rattle.model.proofs.BoundedLaws.{least-found}

-- Lists of conditions.
-- No condition applies.
abbrev pub Passed : List (Answer × Bool) → Type 0
Passed [] = Unit
Passed (c ∷ cs) = (c.1 ≡ false) × Passed cs

-- None is an intercept.
abbrev is_refusal : Answer → Bool
is_refusal (Done x) = false
is_refusal (Refused r) = true
is_refusal (Intercept l) = false

abbrev plain : List (Answer × Bool) → Bool
plain [] = true
plain (c ∷ cs) = is_refusal c.0 && plain cs

-- All but the last.
abbrev front : List (Answer × Bool) → List (Answer × Bool)
front [] = []
front (c ∷ []) = []
front (c ∷ d ∷ cs) = c ∷ front (d ∷ cs)

-- The conditions of what a level does on processor v, where one of them is an intercept of level l: those before it, and those after it.
abbrev intercepting : State → ℕ → ℕ → List (Answer × Bool) → ℕ → List (Answer × Bool) → List (Answer × Bool)
intercepting s v mode before l after =
    Refusal.NoSuchProcessor when leb (processors s) v ∷ Refusal.NoSuchMode when ltb 1 mode ∷ (before ++ ((Intercept (level l), ltb l no_level) ∷ after))

-- A proof for each answer that the list can give, with what is known there: the condition holds and those before it fail. What
-- the list gives is a function of the answer where no condition applies: that answer itself, or always one and the same.
abbrev Given : Type 1
Given = (Answer → Answer) → Type 0

abbrev Cases : Given → List (Answer × Bool) → Type 0
Cases P [] = P (λ a. a)
Cases P (c ∷ cs) = (c.1 ≡ true → P (λ a. c.0)) × (c.1 ≡ false → Cases P cs)

by_cases : (P : Given) (cs : List (Answer × Bool)) → Cases P cs → P (first_of cs)
unfolding first_of
by_cases P [] k = k
by_cases P (c ∷ cs) k = go c.1 refl (λ e. by_cases P cs (k.1 e))
  where
    go : (b : Bool) → c.1 ≡ b → (c.1 ≡ false → P (first_of cs)) → P (λ a. cond b c.0 (first_of cs a))
    go true e r = k.0 e
    go false e r = r e

module _ (P : Given) (refused : (r : Refusal) → P (λ a. Refused r)) where
  a-refusal : (b : Answer) → is_refusal b ≡ true → P (λ a. b)
  a-refusal (Done x) e = absurd (false≢true e)
  a-refusal (Refused r) e = refused r
  a-refusal (Intercept l) e = absurd (false≢true e)

  plain-cases : (cs : List (Answer × Bool)) → plain cs ≡ true → (Passed cs → P (λ a. a)) → Cases P cs
  plain-cases [] p f = f tt
  plain-cases (c ∷ cs) p f =
      (λ e. a-refusal c.0 (and_left (is_refusal c.0) (plain cs) p), λ e. plain-cases cs (and_right (is_refusal c.0) (plain cs) p) (λ q. f (e, q)))

  -- One of them is an intercept.
  one-cases : (before : List (Answer × Bool)) (c : Answer × Bool) (after : List (Answer × Bool)) → plain before ≡ true → plain after ≡ true → (c.1 ≡ true → P (λ a. c.0)) →
      (Passed (before ++ (c ∷ after)) → P (λ a. a)) → Cases P (before ++ (c ∷ after))
  one-cases [] c after p q taken f = (taken, λ e. plain-cases after q (λ h. f (e, h)))
  one-cases (b ∷ bs) c after p q taken f =
      (λ e. a-refusal b.0 (and_left (is_refusal b.0) (plain bs) p), λ e. one-cases bs c after (and_right (is_refusal b.0) (plain bs) p) q taken (λ h. f (e, h)))

-- An intercept: its maker's processor is there, and its receiver.
pub record Taken (s : State) (e : Event) (l : ℕ) : Type 0 where
  pub v : ℕ
  pub made : maker e ≡ some v
  pub inside : v < processors s
  pub within : l < 4
  pub enabled : enabled_on s v l ≡ true
  pub above : active s v < l

-- What the least denying level is.
receiver-taken : (s : State) (e : Event) (v : ℕ) (mode : Mode) (p : ℕ) (a : Access) → maker e ≡ some v → leb (processors s) v ≡ false → ltb (receiver s v mode p a) 4 ≡ true → Taken s e (receiver s v mode p a)
unfolding receiver denies denies_in
receiver-taken s e v mode p a m i h =
    let t : ℕ = receiver s v mode p a in
    let in-t : t < 4 = ltb-true t 4 h in
    let f : (denies s v mode p a t && enabled_on s v t) ≡ true = least-found 4 (λ t. denies s v mode p a t && enabled_on s v t) in-t in
    record {
      v = v;
      made = m;
      inside = leb-false (processors s) v i;
      within = in-t;
      enabled = and_right (denies s v mode p a t) (enabled_on s v t) f;
      above = ltb-true (active s v) t (and_left (ltb (active s v) t) _ (and_left _ _ (and_left (denies s v mode p a t) (enabled_on s v t) f)));
    }

-- What the lowest level that asks is.
watcher-taken : (s : State) (e : Event) (v g : ℕ) (asks : Watch → Bool) → maker e ≡ some v → leb (processors s) v ≡ false → ltb (watcher (shape s) (vp s v) g asks) 4 ≡ true → Taken s e (watcher (shape s) (vp s v) g asks)
unfolding watcher active enabled_on
watcher-taken s e v g asks m i h =
    let t : ℕ = watcher (shape s) (vp s v) g asks in
    let in-t : t < 4 = ltb-true t 4 h in
    let own : Bool = eqb g (active_of (vp s v)) in
    let on : Bool = enabled_at (shape s) (vp s v) t in
    let f : (own && ltb g t && on && asks (context (shape s) (vp s v) t).watch) ≡ true =
    least-found 4 (λ t. eqb g (active_of (vp s v)) && ltb g t && enabled_at (shape s) (vp s v) t && asks (context (shape s) (vp s v) t).watch) in-t in
    let a : (own && ltb g t && on) ≡ true = and_left (own && ltb g t && on) _ f in
    let b : (own && ltb g t) ≡ true = and_left (own && ltb g t) on a in
    let q : g ≡ active_of (vp s v) = eqb-true g (active_of (vp s v)) (and_left own (ltb g t) b) in
    record {
      v = v;
      made = m;
      inside = leb-false (processors s) v i;
      within = in-t;
      enabled = and_right (own && ltb g t) on a;
      above = let r : g < t = ltb-true g t (and_right own (ltb g t) b) in omega arith;
    }

-- Every event's conditions rise; they are plain, or one of them is an intercept of the maker's processor.
data Kind (s : State) (e : Event) : Type 0 where
  ordinary : (plain (rule s e).refusals && rises 1 (rule s e).refusals) ≡ true → Kind s e
  watched : (v mode : ℕ) (before : List (Answer × Bool)) (l : ℕ) (after : List (Answer × Bool)) → maker e ≡ some v → (rule s e).refusals ≡ intercepting s v mode before l after →
      (plain before && plain after && rises 1 (rule s e).refusals) ≡ true → (leb (processors s) v ≡ false → ltb l no_level ≡ true → Taken s e l) → Kind s e

-- The conditions of an access before its intercept, and those after it.
abbrev no_page : State → ℕ → List (Answer × Bool)
no_page s p = Refusal.NoSuchPage when leb (pages s) p ∷ []

abbrev unheard : State → ℕ → Mode → ℕ → Access → List (Answer × Bool)
unheard s v mode p a = Refusal.NoReceiver when denied s v mode p a ∷ Refusal.HostDenies when host_denies s p a ∷ []

kind : (s : State) (e : Event) → Kind s e
unfolding rule rule_of maker
kind s (Made v mode (Enpart t mbec)) = ordinary refl
kind s (Made v mode (Envp w t ip sp cr)) = ordinary refl
kind s (Made v mode (Call len)) = ordinary refl
kind s (Made v mode (Ret len)) = ordinary refl
kind s (Made v mode (Read p)) = watched v.0 mode (no_page s p.0) (receiver s v.0 (mode_of mode) p.0 Access.Read) (unheard s v.0 (mode_of mode) p.0 Access.Read) refl refl refl (receiver-taken s _ v.0 (mode_of mode) p.0 Access.Read refl)
kind s (Made v mode (Write p x)) = watched v.0 mode (no_page s p.0) (receiver s v.0 (mode_of mode) p.0 Access.Write) (unheard s v.0 (mode_of mode) p.0 Access.Write) refl refl refl (receiver-taken s _ v.0 (mode_of mode) p.0 Access.Write refl)
kind s (Made v mode (Fetch p)) = watched v.0 mode (no_page s p.0) (receiver s v.0 (mode_of mode) p.0 Access.Fetch) (unheard s v.0 (mode_of mode) p.0 Access.Fetch) refl refl refl (receiver-taken s _ v.0 (mode_of mode) p.0 Access.Fetch refl)
kind s (Made v mode (Protect p k)) = ordinary refl
kind s (Made v mode (Config g w)) = ordinary refl
kind s (Made v mode (Secure l w)) = ordinary refl
kind s (Made v mode Flush) = ordinary refl
kind s (Made v mode (Rreg g r)) = watched v.0 mode (front (rule_of s v.0 (mode_of mode) (Rreg g r)).refusals) _ [] refl refl refl (watcher-taken s _ v.0 g.0 (asks_read r) refl)
kind s (Made v mode (Wreg g r x)) = watched v.0 mode (front (rule_of s v.0 (mode_of mode) (Wreg g r x)).refusals) _ [] refl refl refl
    (watcher-taken s _ v.0 g.0 (asks_write r (register_of (shape s) (vp s v.0) g.0 r) x) refl)
kind s (Made v mode (Tpr class)) = ordinary refl
kind s (Made v mode Ack) = ordinary refl
kind s (Int w g n) = ordinary refl
kind s (Made v mode Pstat) = ordinary refl
kind s (Made v mode Vstat) = ordinary refl
kind s (Made v mode Caps) = ordinary refl
kind s (Made v mode (Cri word)) = ordinary refl
kind s (Made v mode (Crm n mask)) = ordinary refl

-- What the conditions of an event give: it is done and none applies, or it is refused, or intercepted.
pub condition-cases : (s : State) (e : Event) (P : (Answer → Answer) → Type 0) → (Passed (rule s e).refusals → P (λ a. a)) → ((r : Refusal) → P (λ a. Refused r)) → ((l : ℕ) → Taken s e l → P (λ a. Intercept (level l))) →
    P (first_of (rule s e).refusals)
condition-cases s e P done refused taken = go (kind s e)
  where
    go : Kind s e → P (first_of (rule s e).refusals)
    go (ordinary p) = by_cases P _ (plain-cases P refused (rule s e).refusals (and_left (plain (rule s e).refusals) _ p) done)
    go (watched v mode before l after m q p t) =
        let both : (plain before && plain after) ≡ true = and_left (plain before && plain after) _ p in
        by_cases P _ (rw q (
          λ _. refused Refusal.NoSuchProcessor,
          λ inside. (
            λ _. refused Refusal.NoSuchMode,
            λ mode-there. one-cases P refused before (Intercept (level l), ltb l no_level) after (and_left (plain before) (plain after) both) (and_right (plain before) (plain after) both)
                (λ h. taken l (t inside h)) (λ h. done (subst Passed (sym q) (inside, (mode-there, h)))),
          ),
        ))

-- The same for one step.
abbrev pub given : State → Event → Answer → Outcome
given s e a = record { answer = a; next = next_for a s (maker e) (rule s e).effect }

pub step-cases : (s : State) (e : Event) (P : Outcome → Type 0) → (well_formed s ≡ true → Passed (rule s e).refusals → P (given s e (Done (rule s e).value))) → ((r : Refusal) → P (given s e (Refused r))) →
    (well_formed s ≡ true → (l : ℕ) → Taken s e l → P (given s e (Intercept (level l)))) → P (step s e)
unfolding step ruled next_for
step-cases s e P done refused taken = go (well_formed s) refl
  where
    go : (b : Bool) → well_formed s ≡ b → P (cond b (ruled s e) (given s e (Refused Refusal.NotWellFormed)))
    go true w = condition-cases s e (λ g. P (given s e (g (Done (rule s e).value)))) (done w) refused (taken w)
    go false w = refused Refusal.NotWellFormed

-- Demand 1.
pub unchanged : Unchanged
unfolding next_for
unchanged s e = step-cases s e (λ o. (number_of o.answer ≡ 0 → ⊥) → (number_of o.answer ≡ 9 → ⊥) → (o.next ≡ s) × (value_of o.answer ≡ 0))
    (λ w ps done nine. absurd (done refl))
    (λ r done nine. (refl, refl))
    (λ w l t done nine. absurd (nine refl))

not-nine : (r : Refusal) → eqb (refusal_number r) 9 ≡ false
not-nine refusal.LineTooLong = refl
not-nine refusal.UnknownWord = refl
not-nine refusal.WrongFieldCount = refl
not-nine refusal.NotANumber = refl
not-nine refusal.NotWellFormed = refl
not-nine refusal.NoSuchProcessor = refl
not-nine refusal.NoSuchTarget = refl
not-nine refusal.NoSuchMode = refl
not-nine refusal.LevelOutOfRange = refl
not-nine refusal.MbecOutOfRange = refl
not-nine refusal.LengthOutOfRange = refl
not-nine refusal.ClassOutOfRange = refl
not-nine refusal.VectorOutOfRange = refl
not-nine refusal.NoSuchRegister = refl
not-nine refusal.NoSuchPage = refl
not-nine refusal.InvalidMask = refl
not-nine refusal.ReservedBits = refl
not-nine refusal.Cr0InRealMode = refl
not-nine refusal.NoSuchMask = refl
not-nine refusal.UserMode = refl
not-nine refusal.CallInRealMode = refl
not-nine refusal.RcxNotZero = refl
not-nine refusal.NoHigherLevel = refl
not-nine refusal.ReturnAtLevelZero = refl
not-nine refusal.RcxAboveOne = refl
not-nine refusal.LevelZero = refl
not-nine refusal.AboveMaximum = refl
not-nine refusal.TargetNotAbove = refl
not-nine refusal.TargetGuarded = refl
not-nine refusal.TargetAbove = refl
not-nine refusal.TargetNotBelow = refl
not-nine refusal.ProtectAtLevelZero = refl
not-nine refusal.WatchAtLevelZero = refl
not-nine refusal.EnabledForPartition = refl
not-nine refusal.EnabledOnProcessor = refl
not-nine refusal.NotEnabledForPartition = refl
not-nine refusal.NotEnabledOnProcessor = refl
not-nine refusal.ProtectionsOff = refl
not-nine refusal.NoMbec = refl
not-nine refusal.ProtectionsCleared = refl
not-nine refusal.DefaultMaskChanged = refl
not-nine refusal.KernelOnlyExecute = refl
not-nine refusal.NoReceiver = refl
not-nine refusal.HostDenies = refl
not-nine refusal.TlbLocked = refl
not-nine refusal.NoReadyVector = refl
not-nine refusal.InterruptFlagClear = refl

pub only-entered : OnlyEntered
unfolding next_for intercepted
only-entered s e = step-cases s e (λ o. number_of o.answer ≡ 9 → Entered s e o)
    (λ w ps h. absurd (eqb-false 0 9 refl h))
    (λ r h. absurd (eqb-false (refusal_number r) 9 (not-nine r) h))
    (λ w l t h. record { v = t.v; made = t.made; inside = t.inside; enabled = t.enabled; above = t.above; only = ap (λ m. intercepted s m l) t.made })

-- The smallest number is given. One step's first condition is that the state is not well formed.
step_is : (s : State) (e : Event) → (step s e).answer ≡ first_of (conditions s e) (Done (rule s e).value)
unfolding step ruled next_for first_of
step_is s e = go (well_formed s)
  where
    go : (b : Bool) → (cond b (ruled s e) (given s e (Refused Refusal.NotWellFormed))).answer ≡ cond (not b) (Refused Refusal.NotWellFormed) (first_of (rule s e).refusals (Done (rule s e).value))
    go true = refl
    go false = refl

pub rising : Rising
rising s e = go (kind s e)
  where
    go : Kind s e → rises 1 (conditions s e) ≡ true
    go (ordinary p) = and_right (plain (rule s e).refusals) (rises 1 (rule s e).refusals) p
    go (watched v mode before l after m q p t) = and_right (plain before && plain after) (rises 1 (rule s e).refusals) p

record First (n : ℕ) (cs : List (Answer × Bool)) (a : Answer) : Type 0 where
  applying : (number_of a ≡ 0 → ⊥) → applies (number_of a) cs ≡ true
  least : (m : ℕ) → applies m cs ≡ true → (n ≤ number_of a) × (number_of a ≤ m)

first : (n : ℕ) (cs : List (Answer × Bool)) (x : ℕ) → rises n cs ≡ true → First n cs (first_of cs (Done x))
unfolding first_of
first n [] x r = record { applying = λ h. absurd (h refl); least = λ m h. absurd (false≢true h) }
first n (c ∷ cs) x r = go c.1 refl (first (number_of c.0) cs x (and_right (leb n (number_of c.0)) _ r))
  where
    up : n ≤ number_of c.0
    up = leb-true n (number_of c.0) (and_left (leb n (number_of c.0)) _ r)

    go : (b : Bool) → c.1 ≡ b → First (number_of c.0) cs (first_of cs (Done x)) → First n (c ∷ cs) (cond b c.0 (first_of cs (Done x)))
    go true e f = record {
      applying = λ h. rw (eq-eqb (number_of c.0) (number_of c.0) refl, e);
      least = λ m. or_elim (eqb (number_of c.0) m && c.1) (applies m cs)
          (λ h. (up, omega (arith, eqb-true (number_of c.0) m (and_left _ c.1 h))))
          (λ h. let q = f.least m h in (up, omega arith));
    }
    go false e f = record {
      applying = λ h. rw (e, and-false (eqb (number_of c.0) (number_of (first_of cs (Done x))))) (f.applying h);
      least = λ m h. let q = f.least m (rw (e, and-false (eqb (number_of c.0) m)) at h) in (omega (arith, up), q.1);
    }

pub smallest : (s : State) (e : Event) → Smallest s e
smallest s e =
    let f = first 1 (conditions s e) (rule s e).value (rising s e) in
    let g = subst (λ a. First 1 (conditions s e) a) (sym (step_is s e)) f in
    record { applying = g.applying; least = g.least }
