-- What is written of an input that asks why an access is allowed or denied (02, request 3): records, an access line, and perhaps a sheet
-- that was filled in by hand. Assumes nothing.
use Rattle.std.specs.Prelude.{cond, List, [], ◌∷◌, ◌≡◌, ℕ, ◌<◌, eqb, length, None, Option, Result, Some}
use Rattle.explanation.specs.Explained.{explanation_of}
use Rattle.listing.specs.Listing.{answered}
use Rattle.model.specs.Answers.{number_of}
use Rattle.model.specs.State.{State}
use Rattle.model.specs.Step.{mode_of}
use Rattle.records.specs.Reading.{Passed, passed_on}
use Rattle.records.specs.RecordTexts.{ended}
use Rattle.script.specs.EventForms.{line_event}
use Rattle.script.specs.Records.{lines}
use Rattle.sheet.specs.Sheets.{Explanation, sheet_text}
use Rattle.sheet.specs.Verdicts.{refusal, verdict}
use Rattle.asked.specs.AskedAccess.{asked_by}
use Rattle.asked.specs.declared.Asked.{Asked}
use Rattle.model.specs.declared.answer.Refusal.{Refusal}
use Rattle.model.specs.declared.event.Event.{Event}

-- The sheet of an access; where a sheet follows as the last line, the verdict on it; a refusal where more lines follow.
abbrev pub sheet_with : Explanation → List (List ℕ) → List ℕ
sheet_with e [] = sheet_text e
sheet_with e (sheet ∷ []) = verdict e sheet
sheet_with e (sheet ∷ line ∷ more) = ended refusal

-- A refusal where the line asks for no access, or gets answer 1.
abbrev pub of_asked : State → Option Asked → List (List ℕ) → List ℕ
of_asked s None more = ended refusal
of_asked s (Some q) more = sheet_with (explanation_of s q.vp.0 (mode_of q.mode) q.page.0 q.access) more

abbrev pub of_line : State → Result Event Refusal → List (List ℕ) → List ℕ
of_line s said more = cond (eqb (number_of (answered s said).answer) 1) (ended refusal) (of_asked s (asked_by said) more)

-- A refusal where the access line is missing.
abbrev pub of_lines : State → List (List ℕ) → List ℕ
of_lines s [] = ended refusal
of_lines s (line ∷ more) = of_line s (line_event line) more

-- A refusal where records are missing or get answer 1.
abbrev pub of_passed : Option Passed → List ℕ
of_passed None = ended refusal
of_passed (Some r) = of_lines r.state r.rest

unfoldable pub explained : List ℕ → List ℕ
explained input = of_passed (passed_on (lines input))

-- An input of more bytes than this is refused, whatever it says: records take at most 65,535, and two lines of at most 256 follow, each
-- with its line feed. So a program that reads one byte more has all that counts.
abbrev pub longest_inquiry : ℕ
longest_inquiry = 66049

abbrev pub LongRefused : Type 0
LongRefused = (input : List ℕ) → longest_inquiry < length input → explained input ≡ ended refusal
