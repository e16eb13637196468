-- Demand 3 down to the listing, line by line: after each event the two states are alike again, and so the level column is the same.
-- Assumes nothing.
use Rattle.std.specs.Prelude.{Err, Ok, Result}
use mathlib.Core.Path.{◌≡◌, refl, sym, ap, ◌∙◌}
use mathlib.Core.Bool.{true}
use mathlib.Core.List.{List, [], ◌∷◌, ◌++◌}
use Prim.Native.Nat.{ℕ, ◌≤◌}
use Rattle.model.specs.declared.answer.Answer.{Answer}
use Rattle.model.specs.declared.event.Event.{Event}
use Rattle.model.specs.Hide.{closed, quiet_maker}
use Rattle.model.specs.LevelColumn.{processor_of}
use Rattle.model.specs.State.{State, active}
use Rattle.model.specs.Step.{maker, step, answers, final}
use Rattle.model.specs.WellFormed.{well_formed}
use Rattle.model.proofs.Bools.{and_left, and_right}
use Rattle.model.proofs.Keeps.{step_keeps}
use Rattle.model.proofs.Moves.{closed-kept, step-moved}
use Rattle.model.proofs.Whole.{active-hide}
use Rattle.listing.specs.Listing.{answered, later_records, number_after, record_of}
use Rattle.script.specs.EventForms.{line_event}
use Rattle.isolation.specs.Isolation.{Alike, Isolated, every_level, quiet}
use Rattle.isolation.specs.Listings.{ListingIsolated, and_event, events_of}
use Rattle.isolation.proofs.Runs.{isolation}
use Rattle.model.specs.declared.answer.Refusal.{Refusal}

-- One event in both states.
record Stepped (K : ℕ) (s t : State) (e : Event) : Type 0 where
  same : (step s e).answer ≡ (step t e).answer
  alike : Alike K (step s e).next (step s e).next (step t e).next

-- The first of a list of answers.
head_or : Answer → List Answer → Answer
head_or other [] = other
head_or other (a ∷ more) = a

stepped : (K : ℕ) (s t : State) (e : Event) → 1 ≤ K → well_formed s ≡ true → well_formed t ≡ true → Alike K s s t → quiet_maker K s (maker e) ≡ true → Stepped K s t e
unfolding answers final quiet head_or
stepped K s t e k ws wt plain q =
    let i : Isolated K s t (e ∷ []) = isolation K s t (e ∷ []) k ws wt plain (rw q refl) in
    let kept : closed K (step s e).next ≡ closed K s = λ j p. closed-kept K s (step s e).next (step-moved K k s e q) p j in
    record {
      same = ap (head_or (step s e).answer) i.same;
      alike = rw kept i.alike;
    }

-- What the level column shows is not hidden.
active-same : (K : ℕ) (s t : State) (v : ℕ) → Alike K s s t → active s v ≡ active t v
active-same K s t v plain = sym (active-hide K every_level (closed K s) s v) ∙ ap (λ q. active q v) plain ∙ active-hide K every_level (closed K s) t v

-- What is left to list from two states as in demand 3.
abbrev Rest : ℕ → ℕ → List (List ℕ) → Type 0
Rest K number lines = (s t : State) → well_formed s ≡ true → well_formed t ≡ true → Alike K s s t → quiet K s (events_of lines) ≡ true → later_records number s lines ≡ later_records number t lines

-- One line more.
line_same : (K number : ℕ) (said : Result Event Refusal) (more : List (List ℕ)) → 1 ≤ K → Rest K (number_after number) more
    → (s t : State) → well_formed s ≡ true → well_formed t ≡ true → Alike K s s t → quiet K s (and_event said (events_of more)) ≡ true
    → record_of number (answered s said) ++ later_records (number_after number) (answered s said).next more
    ≡ record_of number (answered t said) ++ later_records (number_after number) (answered t said).next more
unfolding quiet
line_same K number (Err refusal) more k rest s t ws wt plain q = rw (rest s t ws wt plain q)
line_same K number (Ok e) more k rest s t ws wt plain q =
    let st = stepped K s t e k ws wt plain (and_left (quiet_maker K s (maker e)) _ q) in
    rw (st.same, active-same K (step s e).next (step t e).next (processor_of e).0 st.alike, rest (step s e).next (step t e).next (step_keeps s e ws) (step_keeps t e wt) st.alike (and_right (quiet_maker K s (maker e)) _ q))

rest-same : (K number : ℕ) (lines : List (List ℕ)) → 1 ≤ K → Rest K number lines
unfolding later_records events_of
rest-same K number [] k s t ws wt plain q = refl
rest-same K number (line ∷ more) k s t ws wt plain q = line_same K number (line_event line) more k (rest-same K (number_after number) more k) s t ws wt plain q

pub listing-isolated : ListingIsolated
listing-isolated K s t number lines k = rest-same K number lines k s t
