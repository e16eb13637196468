-- Why a line got its answer. Demand 1 of 01: each refusal stands for a stated condition, and its name is the reason. For a denied access
-- the reason is the line of 02, request 3. The state is the one before the line. Assumes nothing.
use Rattle.std.specs.Prelude.{Bool, cond, ◌||◌, List, [], ◌∷◌, ◌++◌, ℕ, eqb, None, Option, Result, Some}
use Rattle.asked.specs.AskedAccess.{asked_by}
use Rattle.asked.specs.declared.Asked.{Asked}
use Rattle.decimal.specs.Write.{decimal}
use Rattle.explanation.specs.Explained.{explanation_of}
use Rattle.listing.specs.Listing.{Answered, answered}
use Rattle.model.specs.Answers.{number_of, refusal_number, value_of}
use Rattle.model.specs.State.{State}
use Rattle.model.specs.Step.{mode_of}
use Rattle.model.specs.declared.answer.Answer.{Answer}
use Rattle.model.specs.declared.answer.Answer.TheVariants.{Done, Refused, Intercept}
use Rattle.model.specs.declared.answer.Refusal.{Refusal}
use Rattle.reason.specs.ReasonNames.{reason_name}
pub use Rattle.reason.specs.declared.Reason.{Reason}
use Rattle.reason.specs.declared.Reason.TheVariants as reason
use Rattle.records.specs.RecordTexts.{ended}
use Rattle.script.specs.Bytes.{bytes}
use Rattle.script.specs.ListingLine.{line_feed}
use Rattle.script.specs.Texts.{parted, together}
use Rattle.sheet.specs.Sheets.{sheet_fields}
use Rattle.explanation.specs.declared.Explanation.{Explanation}
use Rattle.model.specs.declared.event.Event.{Event}

-- Why the access that a line asks for is allowed or denied in a state, if it asks for one.
abbrev pub cause_of : State → Option Asked → Option Explanation
cause_of s None = None
cause_of s (Some q) = Some (explanation_of s q.vp.0 (mode_of q.mode) q.page.0 q.access)

-- A denied access has its explanation as the reason, any other event the reason that is given.
abbrev pub denied_by : Option Explanation → Reason → Reason
denied_by None other = other
denied_by (Some e) other = reason.Denied e

-- The refusals of a denied access: 10, no denying level is enabled on the processor, and 11, the host denies.
abbrev pub is_denial : Refusal → Bool
is_denial r = eqb (refusal_number r) 10 || eqb (refusal_number r) 11

-- None at 0; at 9, 10 and 11 of an access why it is denied; at 9 of another event that the register is watched (02, request 6), by the level
-- that the listing has as its value; else the condition that gave the answer.
abbrev pub reason_for : Option Explanation → Answer → Reason
reason_for c (Done x) = reason.Nothing
reason_for c (Refused r) = cond (is_denial r) (denied_by c (reason.Named r)) (reason.Named r)
reason_for c (Intercept l) = denied_by c reason.RegisterWatched

abbrev pub reason_of : State → Result Event Refusal → Reason
reason_of s said = reason_for (cause_of s (asked_by said)) (answered s said).answer

-- The fields of a reason: a name, or the fields of the sheet.
unfoldable pub fields_of : Reason → List (List ℕ)
fields_of reason.Nothing = []
fields_of (reason.Named r) = reason_name r ∷ []
fields_of (reason.Denied e) = sheet_fields e
fields_of reason.RegisterWatched = bytes "register-watched" ∷ []
fields_of reason.OutOfRange = bytes "first-line-out-of-range" ∷ []
fields_of reason.EmptyInput = bytes "empty-input" ∷ []

abbrev pub reason_fields : State → Result Event Refusal → List (List ℕ)
reason_fields s said = fields_of (reason_of s said)

-- Each after a tab, and then the line feed. They take at most so many bytes: a tab and the longest sheet.
abbrev pub reason_end : Reason → List ℕ
reason_end why = parted (fields_of why) ++ line_feed ∷ []

abbrev pub longest_reason : ℕ
longest_reason = 172

-- A line of the listing with reasons, without its line feed: line number, answer, value and level, and then the fields of the reason.
unfoldable pub reasoned_line : ℕ → ℕ → ℕ → ℕ → Reason → List ℕ
reasoned_line number answer value level reason =
    together (decimal number ∷ decimal answer ∷ decimal value ∷ decimal level ∷ fields_of reason)

-- With its line feed. It has at most so many bytes: four numbers of 20 digits with the three tabs between them, and the longest reason.
abbrev pub reasoned_text : ℕ → ℕ → ℕ → ℕ → Reason → List ℕ
reasoned_text number answer value level reason = ended (reasoned_line number answer value level reason ∷ [])

abbrev pub longest_reasoned : ℕ
longest_reasoned = 255

-- The line of an answer.
abbrev pub line_with : ℕ → Answered → Reason → List ℕ
line_with number a reason = reasoned_line number (number_of a.answer) (value_of a.answer) a.level reason

-- The line of what a later line says.
abbrev pub reasoned_record : ℕ → State → Result Event Refusal → List ℕ
reasoned_record number s said = line_with number (answered s said) (reason_of s said)
