-- The listing with reasons of a whole script: the listing (01, "Script and listing"), whose lines have the reasons behind their four fields.
-- Assumes nothing.
use Rattle.std.specs.Prelude.{cond, List, [], ◌∷◌, map, ℕ, take, Err, None, Ok, Option, Result, Some}
use Rattle.listing.specs.Listing.{answered, number_after, state_by}
use Rattle.model.specs.Fresh.{admissible}
use Rattle.model.specs.State.{State}
use Rattle.reason.specs.Reasons.{Reason, reasoned_line, reasoned_record}
use Rattle.reason.specs.declared.Reason.TheVariants as reason
use Rattle.records.specs.RecordTexts.{ended}
use Rattle.script.specs.EventForms.{line_event}
use Rattle.script.specs.First.{line_first}
use Rattle.script.specs.LineForms.{fields}
use Rattle.script.specs.Records.{lines}
use Rattle.script.specs.Texts.{together}
use Rattle.model.specs.declared.answer.Refusal.{Refusal}
use Rattle.model.specs.declared.machine.FirstLine.{FirstLine}

-- The lines after the first, of which the next has this number. The reason is that of the state before the line.
unfoldable pub later_reasoned : ℕ → State → List (List ℕ) → List (List ℕ)
later_reasoned number s [] = []
later_reasoned number s (line ∷ more) =
    reasoned_record number s (line_event line) ∷ later_reasoned (number_after number) (answered s (line_event line)).next more

-- Why a first line is refused: what is wrong with its form, or a number that is not admissible.
abbrev pub first_reason : Result FirstLine Refusal → Reason
first_reason (Err refusal) = reason.Named refusal
first_reason (Ok f) = cond (admissible f) reason.Nothing reason.OutOfRange

-- The line of the first line: done, and refused for a reason.
abbrev pub reasoned_done : List ℕ
reasoned_done = reasoned_line 0 0 0 0 reason.Nothing

abbrev pub reasoned_refused : Reason → List ℕ
reasoned_refused why = reasoned_line 0 1 0 0 why

-- After a refused first line the program stops.
abbrev pub reasoned_from : Option State → Reason → List (List ℕ) → List (List ℕ)
reasoned_from None why more = reasoned_refused why ∷ []
reasoned_from (Some s) why more = reasoned_done ∷ later_reasoned 1 s more

abbrev pub reasoned_of : List (List ℕ) → List (List ℕ)
reasoned_of [] = reasoned_refused reason.EmptyInput ∷ []
reasoned_of (line ∷ more) = reasoned_from (state_by (line_first line)) (first_reason (line_first line)) more

-- Each line with its line feed.
unfoldable pub reasoned : List ℕ → List ℕ
reasoned script = ended (reasoned_of (lines script))

-- A text whose lines are cut after their fourth field.
abbrev pub first_four : List ℕ → List ℕ
first_four line = together (take 4 (fields line))

unfoldable pub cut_to_four : List ℕ → List ℕ
cut_to_four text = ended (map first_four (lines text))
