-- The explanation of an access is that of its answer, and shows each denying level as it denies (`AnswerExplained`, `DenialsShown` and
-- `DenialsFit` of specs/ExplainedClaims.antt). An explanation says what the answer is, up to the value of an access that is done. Assumes nothing.
use Rattle.std.specs.Prelude.{None, Option, Some}
use mathlib.Core.Path.{◌≡◌, refl, sym, ap, ◌∙◌}
use mathlib.Core.Bool.{Bool, true, false, not, cond, ◌&&◌, and-false, false≢true}
use Prim.Native.Nat.{ℕ, zero, suc, ◌/◌, ◌%◌, ◌^◌, ◌≤◌, ◌<◌}
use native.Mathlib.Omega.{arith}
use lib.Dec.{ltb, eqb}
use borrow.Author.Tests.{ltb-true, ltb-false, le-ltb, lt-leb, eqb-false, not-true}
use Rattle.word.specs.Field.{bit}
use Rattle.model.proofs.Bools.{and_left, and_right}
use Rattle.model.proofs.BoundedLaws.{any_at, least-found}
use Rattle.model.specs.declared.answer.Answer.{Answer}
use Rattle.model.specs.declared.answer.Answer.TheVariants.{Done, Refused, Intercept}
use Rattle.model.specs.declared.answer.Refusal.{Refusal}
use Rattle.model.specs.declared.event.Event.TheVariants.{Made}
use Rattle.model.specs.declared.quantity.Access.{Access}
use Rattle.model.specs.declared.quantity.Access.TheVariants.{Read, Write, Fetch}
use Rattle.model.specs.declared.quantity.Level.{Level}
use Rattle.model.specs.declared.quantity.Mode.{Mode}
use Rattle.model.specs.declared.quantity.Page.{Page}
use Rattle.model.specs.declared.quantity.Processor.{Processor}
use Rattle.model.specs.Answers.{number_of, value_of, first_of}
use Rattle.model.specs.Events.{by_access}
use Rattle.model.specs.Masks.{protects_in}
use Rattle.model.specs.Memory.{needed, mbec_counts, denies_in, denies, denied, receiver, host_denies}
use Rattle.model.specs.State.{State, level, no_level, processors, shape, pages, partition, active, is_level, config_in, enabled_on, mask_of, word_of, level_found}
use Rattle.model.specs.Step.{rule_of, rule, ruled, mode_of, step}
use Rattle.model.specs.WellFormed.{well_formed}
use Rattle.access_events.specs.Access.{accessed, access_value}
use Rattle.explanation.specs.declared.Denial.{Denial}
use Rattle.explanation.specs.declared.Explanation.{Explanation}
use Rattle.explanation.specs.declared.Explanation.TheVariants.{Allowed, Host, Levels}
use Rattle.explanation.specs.Explained.{is_fetch, denial_by, denial_of, explanation_of}
use Rattle.explanation.specs.ExplainedClaims.{DeniedTo, Explains, AnswerExplained, denial_in, is_denial, DenialsShown, FitsIn, DenialsFit}

-- The answer that an explanation is of; x is the value of an access that is done.
abbrev answer_by : Explanation → ℕ → Answer
answer_by Allowed x = Done x
answer_by Host x = Refused Refusal.HostDenies
answer_by (Levels None first second third) x = Refused Refusal.NoReceiver
answer_by (Levels (Some l) first second third) x = Intercept l

-- Which answer it is tells the explanation.
is-allowed : (e : Explanation) (x : ℕ) → number_of (answer_by e x) ≡ 0 → e ≡ Allowed
is-allowed Allowed x q = refl
is-allowed Host x q = absurd (omega arith)
is-allowed (Levels None first second third) x q = absurd (omega arith)
is-allowed (Levels (Some l) first second third) x q = absurd (omega arith)

is-host : (e : Explanation) (x : ℕ) → number_of (answer_by e x) ≡ 11 → e ≡ Host
is-host Allowed x q = absurd (omega arith)
is-host Host x q = refl
is-host (Levels None first second third) x q = absurd (omega arith)
is-host (Levels (Some l) first second third) x q = absurd (omega arith)

is-received : (e : Explanation) (x : ℕ) (l : Level) → (number_of (answer_by e x) ≡ 9) × (value_of (answer_by e x) ≡ l.0) → DeniedTo e (Some l)
is-received Allowed x l q = absurd (omega arith)
is-received Host x l q = absurd (omega arith)
is-received (Levels None first second third) x l q = absurd (omega arith)
is-received (Levels (Some m) first second third) x l q =
    record { first = first; second = second; third = third; is = ap (λ k. Levels (Some (level k)) first second third) q.1 }

is-unreceived : (e : Explanation) (x : ℕ) → number_of (answer_by e x) ≡ 10 → DeniedTo e None
is-unreceived Allowed x q = absurd (omega arith)
is-unreceived Host x q = absurd (omega arith)
is-unreceived (Levels None first second third) x q = record { first = first; second = second; third = third; is = refl }
is-unreceived (Levels (Some l) first second third) x q = absurd (omega arith)

explains : (e : Explanation) (x : ℕ) → Explains (answer_by e x) e
explains e x = record {
  allowed = (λ q. number q, is-allowed e x);
  host = (λ q. number q, is-host e x);
  received = λ l. (λ d. (number d.is, ap (λ f. value_of (answer_by f x)) d.is), is-received e x l);
  unreceived = (λ d. number d.is, is-unreceived e x);
}
  where
    number : {f : Explanation} → e ≡ f → number_of (answer_by e x) ≡ number_of (answer_by f x)
    number q = ap (λ f. number_of (answer_by f x)) q

-- The conditions of an access one after the other, and the explanation: a receiver is one of those that deny.
in-turn : (found denying host : Bool) (l : ℕ) (first second third : Option Denial) (x : ℕ) → (found ≡ true → denying ≡ true)
    → cond found (Intercept (level l)) (cond denying (Refused Refusal.NoReceiver) (cond host (Refused Refusal.HostDenies) (Done x)))
    ≡ answer_by (cond denying (Levels (cond found (Some (level l)) None) first second third) (cond host Host Allowed)) x
in-turn true true host l first second third x h = refl
in-turn true false host l first second third x h = absurd (false≢true (h refl))
in-turn false true host l first second third x h = refl
in-turn false false true l first second third x h = refl
in-turn false false false l first second third x h = refl

module _ (s : State) (v : ℕ) (mode : Mode) (p : ℕ) (access : Access) where
  abbrev at : ℕ → Bool
  at t = denies s v mode p access t

  found-denies : (b : Bool) → denied s v mode p access ≡ b → ltb (receiver s v mode p access) no_level ≡ true → b ≡ true
  unfolding denied receiver
  found-denies true q h = refl
  found-denies false q h =
      let l = receiver s v mode p access in
      let low : l < 4 = ltb-true l 4 h in
      sym (any_at 4 at q l low) ∙ and_left (at l) (enabled_on s v l) (least-found 4 (λ t. at t && enabled_on s v t) low)

  answer-explained : (x : ℕ) → p < pages s → first_of (by_access s v mode p access) (Done x) ≡ answer_by (explanation_of s v mode p access) x
  unfolding first_of explanation_of level_found
  answer-explained x h =
      rw (lt-leb (pages s) p h)
      (in-turn (ltb (receiver s v mode p access) no_level) (denied s v mode p access) (host_denies s p access) (receiver s v mode p access)
      (denial_of s v mode p access 1) (denial_of s v mode p access 2) (denial_of s v mode p access 3) x (found-denies (denied s v mode p access) refl))

-- The answer of a step to an access of a processor and a page that are there.
stepped : (s : State) (v : Processor) (mode : ℕ) (p : Page) (access : Access) (x : ℕ) → well_formed s ≡ true → v.0 < processors s → mode ≤ 1
    → (step s (Made v mode (accessed access p x))).answer ≡ first_of (by_access s v.0 (mode_of mode) p.0 access) (Done (access_value access (word_of s p.0)))
unfolding step ruled rule rule_of first_of
stepped s v mode p Read x f h m = rw (f, lt-leb (processors s) v.0 h, le-ltb 1 mode m)
stepped s v mode p Write x f h m = rw (f, lt-leb (processors s) v.0 h, le-ltb 1 mode m)
stepped s v mode p Fetch x f h m = rw (f, lt-leb (processors s) v.0 h, le-ltb 1 mode m)

pub answer-is-explained : AnswerExplained
answer-is-explained s v mode p access x f h m i =
    rw (stepped s v mode p access x f h m ∙ answer-explained s v.0 (mode_of mode) p.0 access (access_value access (word_of s p.0)) i)
    (explains (explanation_of s v.0 (mode_of mode) p.0 access) (access_value access (word_of s p.0)))

-- Neither level 0 nor what is no level denies, and no level where the access is not denied.
module _ (s : State) (v : ℕ) (mode : Mode) (p : ℕ) (access : Access) where
  zero-allows : denies s v mode p access 0 ≡ false
  unfolding denies denies_in
  zero-allows = rw (le-ltb (active s v) 0 (omega arith))

  past-allows : (t : ℕ) → 4 ≤ t → denies s v mode p access t ≡ false
  unfolding denies denies_in protects_in config_in is_level
  past-allows t h = rw (le-ltb t 4 h, and-false, and-false, and-false)

  none-denies : denied s v mode p access ≡ false → (t : ℕ) → denies s v mode p access t ≡ false
  unfolding denied
  none-denies q t = go (ltb t 4) refl
    where
      go : (b : Bool) → ltb t 4 ≡ b → denies s v mode p access t ≡ false
      go true e = any_at 4 (denies s v mode p access) q t (ltb-true t 4 e)
      go false e = past-allows t (ltb-false t 4 e)

  absent : (t : ℕ) → denies s v mode p access t ≡ false → None ≡ denial_of s v mode p access t
  unfolding denial_of denial_by
  absent t q = rw q

  -- The denial of level t in an explanation whose conditions are given.
  in_place : (denying host : Bool) (r : Option Level) → denied s v mode p access ≡ denying → (t : ℕ)
      → denial_in (cond denying (Levels r (denial_of s v mode p access 1) (denial_of s v mode p access 2) (denial_of s v mode p access 3)) (cond host Host Allowed)) t ≡ denial_of s v mode p access t
  in_place true host r q zero = absent 0 zero-allows
  in_place true host r q (suc zero) = refl
  in_place true host r q (suc (suc zero)) = refl
  in_place true host r q (suc (suc (suc zero))) = refl
  in_place true host r q (suc (suc (suc (suc t)))) = absent _ (past-allows _ (omega arith))
  in_place false true r q t = absent t (none-denies q t)
  in_place false false r q t = absent t (none-denies q t)

  shown : (t : ℕ) → denial_in (explanation_of s v mode p access) t ≡ denial_of s v mode p access t
  unfolding explanation_of
  shown = in_place (denied s v mode p access) (host_denies s p access) (level_found (receiver s v mode p access)) refl

-- A level that denies has a denial.
denial-test : (b : Bool) (mask : ℕ) (mbec : Bool) (mode : Mode) (access : Access) → is_denial (denial_by b mask mbec mode access) ≡ b
unfolding denial_by
denial-test true mask mbec mode access = refl
denial-test false mask mbec mode access = refl

pub denials-are-shown : DenialsShown
unfolding denial_of
denials-are-shown s v mode p access t =
    let d = shown s v mode p access t in
    record { denial = d; denying = ap is_denial d ∙ denial-test _ _ _ _ _ }

-- A bit that is not set, and the bit that an access needs by what is told of MBEC: no read or write asks for it.
clear : (n : ℕ) → eqb (n % 2) 1 ≡ false → n % 2 ≡ 0
clear n q = let d : (n % 2 ≡ 1 → ⊥) = eqb-false (n % 2) 1 q in omega arith

needed-as-told : (mbec : Bool) (mode : Mode) (access : Access) → needed mbec mode access ≡ needed (is_fetch access && mbec) mode access
unfolding needed
needed-as-told mbec mode Read = refl
needed-as-told mbec mode Write = refl
needed-as-told mbec mode Fetch = refl

fitting : (b : Bool) (mask : ℕ) (mbec : Bool) (mode : Mode) (access : Access) → (b ≡ true → bit mask (needed mbec mode access) ≡ false)
    → FitsIn mode access (denial_by b mask mbec mode access)
unfolding denial_by
fitting false mask mbec mode access h = tt
fitting true mask mbec mode access h =
    record { lacks = clear (mask / 2 ^ needed mbec mode access) (h refl); needs = ap (λ n. 2 ^ n) (needed-as-told mbec mode access) }

pub denials-fit : DenialsFit
unfolding denial_of denies denies_in mask_of
denials-fit s v mode p access t =
    let on = ltb (active s v) t && protects_in (shape s) (partition s).configs t in
    fitting _ _ _ mode access (λ h. not-true _ (and_right on (not (bit (mask_of s t p) (needed (mbec_counts s v t (active s v)) mode access))) h))
