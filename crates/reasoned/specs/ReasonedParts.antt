-- What the parts of the code give: a line that was answered with its reason, and a line that has ended. Assumes nothing.
use Rattle.std.specs.Prelude.{◌≡◌, ℕ, ◌≤◌, List, length, None, Option, Result, Some}
use Rattle.std.proofs.lemmas.List.Edits.{sets}
use Rattle.listing.specs.Answer.{shown_by}
use Rattle.listing.specs.Listing.{answered}
use Rattle.model.specs.State.{State}
use Rattle.reason.specs.Reasons.{reason_for, reasoned_text}
use Rattle.reason.specs.declared.Reason.{Reason}
use Rattle.reason.specs.declared.Reason.TheVariants as reason
use Rattle.session.specs.Session.{Progress, ended, progress_of}
use Rattle.session.specs.declared.Written.{Written}
use Rattle.reasoned.specs.ReasonedSession.{line_text}
use Rattle.reasoned.specs.declared.line_reason.Told.{Told}
use Rattle.explanation.specs.declared.Explanation.{Explanation}
use Rattle.model.specs.declared.answer.Refusal.{Refusal}
use Rattle.model.specs.declared.event.Event.{Event}

-- A line was answered: the next state, what is shown, and the reason, where the cause of an access was asked before.
pub record ToldBy (cause : Option Explanation) (said : Result Event Refusal) (r : Told) (before after : State) : Type 0 where
  pub next : after ≡ (answered before said).next
  pub shown : r.shown ≡ shown_by (answered before said)
  pub why : r.why ≡ reason_for cause (answered before said).answer

-- A line of a session was ended, and its text written at the start of a buffer.
pub record EndedWith (p : Progress) (r : Written) (before after : List ℕ) : Type 0 where
  pub progress : progress_of r.session ≡ (ended p).progress
  pub wrote : r.wrote ≡ length (line_text p)
  pub written : after ≡ sets before 0 (line_text p)
  pub within : r.wrote ≤ length after

-- The line of the first line: done, or refused for a reason.
abbrev pub first_line : Option Reason → List ℕ
first_line None = reasoned_text 0 0 0 0 reason.Nothing
first_line (Some why) = reasoned_text 0 1 0 0 why
