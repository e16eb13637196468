-- The listing of a whole script (01, "Script and listing"): its lines, what each is answered, and the record of each answer.
-- Assumes nothing.
use Rattle.std.specs.Prelude.{cond, List, [], ◌∷◌, ◌++◌, ℕ, ◌+◌, ◌%◌, ◌^◌, Err, None, Ok, Option, Result, Some}
use Rattle.model.specs.Answers.{number_of, value_of}
use Rattle.model.specs.Fresh.{admissible, fresh}
use Rattle.model.specs.LevelColumn.{level_column, processor_of}
use Rattle.model.specs.State.{State}
use Rattle.model.specs.declared.answer.Answer.{Answer}
use Rattle.model.specs.declared.answer.Answer.TheVariants.{Refused}
use Rattle.script.specs.EventForms.{line_event}
use Rattle.script.specs.First.{line_first}
use Rattle.script.specs.ListingLine.{listing_line}
use Rattle.script.specs.Records.{lines}
use Rattle.model.specs.Step.{step}
use Rattle.model.specs.declared.answer.Refusal.{Refusal}
use Rattle.model.specs.declared.event.Event.{Event}
use Rattle.model.specs.declared.machine.FirstLine.{FirstLine}

-- What a line after the first is answered, its level column, and the next state.
pub record Answered : Type 0 where
  pub answer : Answer
  pub level : ℕ
  pub next : State

-- A malformed line gets its refusal, answer 1, and the state stays; an event gets what the model's step gives.
abbrev pub answered : State → Result Event Refusal → Answered
answered s (Err refusal) = record { answer = Refused refusal; level = 0; next = s }
answered s (Ok e) =
    record { answer = (step s e).answer; level = level_column (step s e) (processor_of e); next = (step s e).next }

-- The record of an answer.
abbrev pub record_of : ℕ → Answered → List ℕ
record_of number a = listing_line number (number_of a.answer) (value_of a.answer) a.level

-- Line numbers count from 0, modulo 2^64.
abbrev pub number_after : ℕ → ℕ
number_after number = (number + 1) % 2 ^ 64

-- The records of lines after the first, of which the next has this number.
unfoldable pub later_records : ℕ → State → List (List ℕ) → List ℕ
later_records number s [] = []
later_records number s (line ∷ more) =
    record_of number (answered s (line_event line)) ++ later_records (number_after number) (answered s (line_event line)).next more

-- The state that the first line describes: none where the line is malformed or not admissible.
abbrev pub state_by : Result FirstLine Refusal → Option State
state_by (Err refusal) = None
state_by (Ok f) = cond (admissible f) (Some (fresh f)) None

-- The records of the first line: done, and refused.
abbrev pub first_done : List ℕ
first_done = listing_line 0 0 0 0

abbrev pub first_refused : List ℕ
first_refused = listing_line 0 1 0 0

-- After a refused first line the program stops.
abbrev pub listing_from : Option State → List (List ℕ) → List ℕ
listing_from None more = first_refused
listing_from (Some s) more = first_done ++ later_records 1 s more

-- An empty input is refused as well.
abbrev pub listing_of : List (List ℕ) → List ℕ
listing_of [] = first_refused
listing_of (line ∷ more) = listing_from (state_by (line_first line)) more

unfoldable pub listing : List ℕ → List ℕ
listing input = listing_of (lines input)
