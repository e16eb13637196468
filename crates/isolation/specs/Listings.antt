-- Demand 3 down to what a user sees: the listing of a script's later lines. Assumes nothing.
use Rattle.std.specs.Prelude.{◌≡◌, true, List, [], ◌∷◌, ℕ, ◌≤◌, Err, Ok, Result}
use Rattle.model.specs.declared.event.Event.{Event}
use Rattle.model.specs.State.{State}
use Rattle.model.specs.WellFormed.{well_formed}
use Rattle.listing.specs.Listing.{later_records}
use Rattle.script.specs.EventForms.{line_event}
use Rattle.isolation.specs.Isolation.{Alike, quiet}
use Rattle.model.specs.declared.answer.Refusal.{Refusal}

-- The events of lines after the first: a malformed line has none.
abbrev pub and_event : Result Event Refusal → List Event → List Event
and_event (Err refusal) more = more
and_event (Ok e) more = e ∷ more

unfoldable pub events_of : List (List ℕ) → List Event
events_of [] = []
events_of (line ∷ more) = and_event (line_event line) (events_of more)

-- Two states as in demand 3, and later lines of a script whose events meet its side condition: the listings are the same, byte for byte,
-- whatever number the first of these lines has.
abbrev pub ListingIsolated : Type 0
ListingIsolated = (K : ℕ) (s t : State) (number : ℕ) (lines : List (List ℕ)) → 1 ≤ K → well_formed s ≡ true → well_formed t ≡ true → Alike K s s t →
    quiet K s (events_of lines) ≡ true → later_records number s lines ≡ later_records number t lines
