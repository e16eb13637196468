-- The answer of an event that is not done is that of the first condition of its rule that holds; only a line that reads or writes a register
-- is told that it is watched; and a line has no reason exactly where it is done.
-- Assumes nothing.
use Rattle.std.specs.Prelude.{Err, None, Ok, Option, Some}
use mathlib.Core.Bool.{Bool, true, false, cond, not, or-true, ◌||◌}
use mathlib.Core.List.{List, [], ◌∷◌, ◌++◌}
use mathlib.Core.Path.{◌≡◌, refl, ap, ◌∙◌}
use mathlib.Core.Logic.{◌↔◌}
use Prim.Native.Nat.{ℕ, ◌≤◌}
use borrow.Author.Tests.{eq-eqb, eqb-false, leb-true, not-true}
use lib.Dec.{eqb, leb}
use native.Mathlib.Omega.{arith}
use Rattle.asked.specs.AskedAccess.{asked_by}
use Rattle.explanation.specs.Explained.{explanation_of}
use Rattle.listing.specs.Listing.{answered}
use Rattle.model.specs.Answers.{first_of, number_of, refusal_number}
use Rattle.model.specs.Claims.{conditions}
use Rattle.model.specs.State.{State}
use Rattle.model.specs.Step.{mode_of, rule, rule_of, ruled, step}
use Rattle.model.specs.WellFormed.{well_formed}
use Rattle.model.specs.declared.answer.Answer.{Answer}
use Rattle.model.specs.declared.answer.Answer.TheVariants.{Done, Refused, Intercept}
use Rattle.model.specs.declared.answer.Refusal.{Refusal}
use Rattle.model.specs.declared.event.Action.TheVariants.{Enpart, Envp, Call, Ret, Read, Write, Fetch, Protect, Config, Secure, Flush, Rreg, Wreg, Tpr, Ack, Pstat, Vstat, Caps, Cri, Crm}
use Rattle.model.specs.declared.event.Event.{Event}
use Rattle.model.specs.declared.event.Event.TheVariants.{Made, Int}
use Rattle.model.specs.declared.quantity.Access.TheVariants as Access
use Rattle.reason.specs.ReasonClaims.{FirstCondition, FirstHolding, NoneAtDone, OnlyRegisters, register_line}
use Rattle.reason.specs.Reasons.{Reason, cause_of, denied_by, fields_of, is_denial, reason_for, reason_of}
use Rattle.reason.specs.declared.Reason.TheVariants as reason
use Rattle.reason.proofs.NameLaws.{each-name}
use Rattle.sheet.specs.Sheets.{Explanation, Allowed, Host, Levels, sheet_fields}
use Rattle.explanation.specs.declared.Explanation.{Explanation}

-- What is given of a list of conditions is the last resort, or the answer of the first that holds.
first-of : (all : List (Answer × Bool)) (x : ℕ) → (number_of (first_of all (Done x)) ≡ 0 → ⊥) → FirstHolding all (first_of all (Done x))
unfolding first_of
first-of [] x h = absurd (h refl)
first-of ((a, b) ∷ more) x h = go b h (first-of more x)
  where
    go : (t : Bool) → (number_of (cond t a (first_of more (Done x))) ≡ 0 → ⊥) → ((number_of (first_of more (Done x)) ≡ 0 → ⊥) → FirstHolding more (first_of more (Done x)))
        → FirstHolding ((a, t) ∷ more) (cond t a (first_of more (Done x)))
    go true k later = record { before = []; after = more; split = refl; none_before = tt }
    go false k later =
        let f = later k in
        record { before = (a, false) ∷ f.before; after = f.after; split = ap (λ (l : List (Answer × Bool)). (a, false) ∷ l) f.split; none_before = (refl, f.none_before) }

-- A state that is not well formed comes first of all.
step-first : (s : State) (e : Event) → (step s e).answer ≡ first_of (conditions s e) (Done (rule s e).value)
unfolding step ruled first_of
step-first s e = go (well_formed s)
  where
    go : (t : Bool) → (cond t (ruled s e) (record { answer = Refused Refusal.NotWellFormed; next = s })).answer
        ≡ cond (not t) (Refused Refusal.NotWellFormed) (first_of (rule s e).refusals (Done (rule s e).value))
    go true = refl
    go false = refl

pub first-condition : FirstCondition
first-condition s e = rw (step-first s e) (first-of (conditions s e) (rule s e).value)

-- Some condition of a list is an intercept.
abbrev nine : List (Answer × Bool) → Bool
nine [] = false
nine (c ∷ more) = eqb (number_of c.0) 9 || nine more

nine-holds : (before : List (Answer × Bool)) (a : Answer) (after : List (Answer × Bool)) → number_of a ≡ 9 → nine (before ++ (a, true) ∷ after) ≡ true
nine-holds [] a after e = rw (eq-eqb (number_of a) 9 e)
nine-holds (c ∷ before) a after e = rw (nine-holds before a after e) (or-true (eqb (number_of c.0) 9))

nine-among : (s : State) (e : Event) → number_of (step s e).answer ≡ 9 → nine (conditions s e) ≡ true
nine-among s e h =
    let f = first-condition s e (λ z. omega arith) in
    ap nine f.split ∙ nine-holds f.before (step s e).answer f.after h

-- The reason is that a register is watched: the answer is 9, and the line asks for no access.
watched-nine : (c : Option Explanation) (a : Answer) → reason_for c a ≡ reason.RegisterWatched → number_of a ≡ 9
watched-nine c (Done x) h = absurd (let z : ◌≡◌ {A = ℕ} 0 1 = cc in omega arith)
watched-nine c (Refused r) h = absurd (go c (is_denial r) h)
  where
    go : (c : Option Explanation) (t : Bool) → cond t (denied_by c (reason.Named r)) (reason.Named r) ≡ reason.RegisterWatched → ⊥
    go None true h = let z : ◌≡◌ {A = ℕ} 0 1 = cc in omega arith
    go (Some e) true h = let z : ◌≡◌ {A = ℕ} 0 1 = cc in omega arith
    go c false h = let z : ◌≡◌ {A = ℕ} 0 1 = cc in omega arith
watched-nine c (Intercept l) h = refl

no_access : {A : Type 0} (e : Explanation) (a : Answer) → reason_for (Some e) a ≡ reason.RegisterWatched → A
no_access e (Done x) h = absurd (let z : ◌≡◌ {A = ℕ} 0 1 = cc in omega arith)
no_access e (Refused r) h = absurd (go (is_denial r) h)
  where
    go : (t : Bool) → cond t (reason.Denied e) (reason.Named r) ≡ reason.RegisterWatched → ⊥
    go true h = let z : ◌≡◌ {A = ℕ} 0 1 = cc in omega arith
    go false h = let z : ◌≡◌ {A = ℕ} 0 1 = cc in omega arith
no_access e (Intercept l) h = absurd (let z : ◌≡◌ {A = ℕ} 0 1 = cc in omega arith)

refused-nine : (r : Refusal) → refusal_number r ≡ 9 → ⊥
refused-nine r h = eqb-false (refusal_number r) 9 (not-true _ (each-name (λ x. not (eqb (refusal_number x) 9)) refl r)) h

-- Event by event: only the conditions of an access and of rreg and wreg have an intercept.
pub only-registers : OnlyRegisters
unfolding rule rule_of
only-registers s (Err r) h = absurd (refused-nine r (watched-nine (cause_of s (asked_by (Err r))) (Refused r) h))
only-registers s (Ok e) h = by-event e h (nine-among s e (watched-nine (cause_of s (asked_by (Ok e))) (step s e).answer h))
  where
    by-event : (e : Event) → reason_of s (Ok e) ≡ reason.RegisterWatched → nine (conditions s e) ≡ true → register_line (Ok e) ≡ true
    by-event (Made v mode (Enpart t mbec)) h n = n
    by-event (Made v mode (Envp w t ip sp cr)) h n = n
    by-event (Made v mode (Call len)) h n = n
    by-event (Made v mode (Ret len)) h n = n
    by-event (Made v mode (Read p)) h n = no_access (explanation_of s v.0 (mode_of mode) p.0 Access.Read) (step s (Made v mode (Read p))).answer h
    by-event (Made v mode (Write p x)) h n = no_access (explanation_of s v.0 (mode_of mode) p.0 Access.Write) (step s (Made v mode (Write p x))).answer h
    by-event (Made v mode (Fetch p)) h n = no_access (explanation_of s v.0 (mode_of mode) p.0 Access.Fetch) (step s (Made v mode (Fetch p))).answer h
    by-event (Made v mode (Protect p k)) h n = n
    by-event (Made v mode (Config g w)) h n = n
    by-event (Made v mode (Secure l w)) h n = n
    by-event (Made v mode Flush) h n = n
    by-event (Made v mode (Rreg g r)) h n = refl
    by-event (Made v mode (Wreg g r x)) h n = refl
    by-event (Made v mode (Tpr class)) h n = n
    by-event (Made v mode Ack) h n = n
    by-event (Made v mode Pstat) h n = n
    by-event (Made v mode Vstat) h n = n
    by-event (Made v mode Caps) h n = n
    by-event (Made v mode (Cri word)) h n = n
    by-event (Made v mode (Crm n' mask)) h n = n
    by-event (Int w g vector) h n = n

-- A line has no reason exactly where it is done.
no_name : {A : Type 0} {field : List ℕ} {more : List (List ℕ)} → field ∷ more ≡ [] → A
no_name h = absurd (let z : ◌≡◌ {A = ℕ} 0 1 = cc in omega arith)

some-fields : (e : Explanation) → sheet_fields e ≡ [] → ⊥
unfolding sheet_fields
some-fields Allowed h = no_name h
some-fields Host h = no_name h
some-fields (Levels by first second third) h = no_name h

denied-fields : (c : Option Explanation) (other : Reason) → (fields_of other ≡ [] → ⊥) → fields_of (denied_by c other) ≡ [] → ⊥
unfolding fields_of
denied-fields None other k h = k h
denied-fields (Some e) other k h = some-fields e h

refused-fields : (c : Option Explanation) (r : Refusal) (t : Bool) → fields_of (cond t (denied_by c (reason.Named r)) (reason.Named r)) ≡ [] → ⊥
unfolding fields_of
refused-fields c r true h = denied-fields c (reason.Named r) no_name h
refused-fields c r false h = no_name h

refused-number : (r : Refusal) → refusal_number r ≡ 0 → ⊥
refused-number r h = let some : 1 ≤ refusal_number r = leb-true _ _ (each-name (λ x. leb 1 (refusal_number x)) refl r) in omega arith

none-for : (c : Option Explanation) (a : Answer) → (fields_of (reason_for c a) ≡ []) ↔ (number_of a ≡ 0)
unfolding fields_of
none-for c (Done x) = (λ h. refl, λ h. refl)
none-for c (Refused r) = (λ h. absurd (refused-fields c r (is_denial r) h), λ h. absurd (refused-number r h))
none-for c (Intercept l) = (λ h. absurd (denied-fields c reason.RegisterWatched no_name h), λ h. absurd (let z : ◌≡◌ {A = ℕ} 9 0 = h in omega arith))

pub none-at-done : NoneAtDone
none-at-done s said = none-for (cause_of s (asked_by said)) (answered s said).answer
