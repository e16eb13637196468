-- A machine opened by a first line, and one event line on it, with what is told of the answer (01, "Script and listing"). Nothing changes where
-- a slice is too short. Assumes nothing.
use Rattle.std.specs.Prelude.{cond, List, [], ◌∷◌, ℕ, ltb, length, Err, Ok, Result}
use Rattle.std.proofs.lemmas.List.Edits.{sets}
use Rattle.listing.specs.Listing.{Answered, answered}
use Rattle.model.specs.Answers.{number_of, value_of}
use Rattle.model.specs.Fresh.{admissible, fresh}
use Rattle.model.specs.State.{State, level}
use Rattle.script.specs.EventForms.{line_event}
use Rattle.script.specs.First.{line_first}
use Rattle.lockstep.specs.MachineWords.{levels_at, machine_words, parts_of, state_in, words_of}
use Rattle.lockstep.specs.ReasonNumbers.{not_admissible, no_reason, reason_number, refusal_reason, short_slice}
use Rattle.lockstep.specs.declared.Reply.{Reply}
use Rattle.model.specs.declared.answer.Refusal.{Refusal}
use Rattle.model.specs.declared.event.Event.{Event}
use Rattle.model.specs.declared.machine.FirstLine.{FirstLine}

-- A reason, the words after it, and the state that they stand for.
pub record Opened : Type 0 where
  pub reason : ℕ
  pub words : List ℕ
  pub state : State

abbrev pub unopened : ℕ → List ℕ → Opened
unopened reason ws = record { reason = reason; words = ws; state = state_in ws }

-- The words of the fresh machine, or the reason why there is none.
abbrev pub opened_by : List ℕ → Result FirstLine Refusal → Opened
opened_by ws (Err refusal) = unopened (refusal_reason refusal) ws
opened_by ws (Ok f) =
    cond (admissible f) (record { reason = no_reason; words = sets ws 0 (words_of (fresh f)); state = fresh f }) (unopened not_admissible ws)

unfoldable pub opened : List ℕ → List ℕ → Opened
opened line ws = cond (ltb (length ws) machine_words) (unopened short_slice ws) (opened_by ws (line_first line))

-- What is told of the answer to a line: number, value and level as the listing shows them, and the number of the reason.
abbrev pub reply_by : Answered → Reply
reply_by a = record {
  answer = number_of a.answer;
  value = value_of a.answer;
  level = level a.level;
  reason = reason_number a.answer;
}

-- Too few words: answer 1, with a reason of its own.
abbrev pub too_short : Reply
too_short = record { answer = 1; value = 0; level = level 0; reason = short_slice }

-- A reply, the words after it, and the state that they stand for.
pub record Stepped : Type 0 where
  pub reply : Reply
  pub words : List ℕ
  pub state : State

abbrev pub unstepped : List ℕ → Stepped
unstepped ws = record { reply = too_short; words = ws; state = state_in ws }

-- The state of the words makes the step. The words of the setup stay, and so do those beyond the pages.
abbrev pub stepped_by : List ℕ → Result Event Refusal → Stepped
stepped_by ws p =
    let a = answered (state_in ws) p in
    record { reply = reply_by a; words = sets ws levels_at (parts_of a.next); state = a.next }

unfoldable pub stepped_in : List ℕ → List ℕ → Stepped
stepped_in ws line = cond (ltb (length ws) machine_words) (unstepped ws) (stepped_by ws (line_event line))

-- What a step shows beside the answer's number takes three words: value, level and reason.
abbrev pub shown_words : ℕ
shown_words = 3

abbrev pub shown_by : Reply → List ℕ
shown_by r = r.value ∷ r.level.0 ∷ r.reason ∷ []

-- One line. Where there is no room for what is shown the line is not answered, and nothing is shown.
unfoldable pub stepped : List ℕ → List ℕ → List ℕ → Stepped
stepped ws line shown = cond (ltb (length shown) shown_words) (unstepped ws) (stepped_in ws line)

unfoldable pub shown_after : List ℕ → List ℕ → List ℕ → List ℕ
shown_after ws line shown = cond (ltb (length shown) shown_words) shown (sets shown 0 (shown_by (stepped_in ws line).reply))
