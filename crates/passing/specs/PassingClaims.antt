-- What is proved of saving and resuming (02, request 2): a script in two parts, the machine passed on between them, gives what it gives in
-- one. Assumes nothing.
use Rattle.std.specs.Prelude.{true, List, [], ◌∷◌, ◌++◌, ◌≡◌, ℕ}
use Rattle.model.specs.Answers.{number_of, value_of}
use Rattle.model.specs.declared.answer.Answer.{Answer}
use Rattle.model.specs.State.{State}
use Rattle.model.specs.WellFormed.{well_formed}
use Rattle.listing.specs.Listing.{Answered, answered, first_done, later_records, number_after}
use Rattle.records.specs.RecordTexts.{records_text}
use Rattle.records.specs.Values.{plain, Sized}
use Rattle.script.specs.EventForms.{line_event}
use Rattle.script.specs.ListingLine.{listing_line}
use Rattle.script.specs.Records.{lines}
use Rattle.passing.specs.Passing.{later_state, resumed}

-- A record but for its number: an answer, and the level shown.
pub record Told : Type 0 where
  pub answer : Answer
  pub level : ℕ

abbrev pub told_by : Answered → Told
told_by a = record { answer = a.answer; level = a.level }

unfoldable pub told : State → List (List ℕ) → List Told
told s [] = []
told s (line ∷ more) = told_by (answered s (line_event line)) ∷ told (answered s (line_event line)).next more

-- The records of lines after the first are these with their numbers.
unfoldable pub numbered : ℕ → List Told → List ℕ
numbered number [] = []
numbered number (t ∷ more) =
    listing_line number (number_of t.answer) (value_of t.answer) t.level ++ numbered (number_after number) more

abbrev pub Numbered : Type 0
Numbered = (number : ℕ) (s : State) (script : List (List ℕ)) → later_records number s script ≡ numbered number (told s script)

-- A script in two parts, in one run.
pub record TwoParts (s : State) (one two : List (List ℕ)) : Type 0 where
  pub records : told s (one ++ two) ≡ told s one ++ told (later_state s one) two
  pub state : later_state s (one ++ two) ≡ later_state (later_state s one) two

-- The machine passed on between them: resuming reads `plain s`, all that is part of s. The records of the second part are the same, but for
-- their numbers, which count from 1, and the state in the end is all that is part of the one that the script in one run gives.
pub record PassedOn (s : State) (script : List ℕ) : Type 0 where
  pub records : resumed (records_text s ++ script) ≡ first_done ++ numbered 1 (told s (lines script))
  pub state : later_state (plain s) (lines script) ≡ plain (later_state s (lines script))

abbrev pub Passing : Type 0
Passing = (s : State) (script : List ℕ) → well_formed s ≡ true → Sized s → PassedOn s script
