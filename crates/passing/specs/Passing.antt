-- What saving after a script writes, and what resuming writes (02, request 2). Assumes nothing.
use Rattle.std.specs.Prelude.{List, [], ◌∷◌, ◌++◌, ℕ, None, Option, Some}
use Rattle.model.specs.State.{State}
use Rattle.listing.specs.Listing.{answered, first_done, first_refused, later_records, state_by}
use Rattle.records.specs.Reading.{Passed, passed_on}
use Rattle.records.specs.RecordTexts.{records_text}
use Rattle.script.specs.EventForms.{line_event}
use Rattle.script.specs.First.{line_first}
use Rattle.script.specs.Records.{lines}

-- The state after lines that follow the first.
unfoldable pub later_state : State → List (List ℕ) → State
later_state s [] = s
later_state s (line ∷ more) = later_state (answered s (line_event line)).next more

-- Saving writes the records of the state after a script. Where the first line is bad, or the input is empty, it writes the refusal line.
abbrev pub saved_from : Option State → List (List ℕ) → List ℕ
saved_from None more = first_refused
saved_from (Some s) more = records_text (later_state s more)

abbrev pub saved_of : List (List ℕ) → List ℕ
saved_of [] = first_refused
saved_of (line ∷ more) = saved_from (state_by (line_first line)) more

unfoldable pub saved : List ℕ → List ℕ
saved input = saved_of (lines input)

-- Resuming reads records, answers them as line 0, and goes on, from line 1, with a script without first line.
abbrev pub resumed_from : Option Passed → List ℕ
resumed_from None = first_refused
resumed_from (Some r) = first_done ++ later_records 1 r.state r.rest

unfoldable pub resumed : List ℕ → List ℕ
resumed input = resumed_from (passed_on (lines input))
