-- What the parts of the code give: a session made anew, one that goes on, a line that has ended, and a chunk from a place on.
-- Assumes nothing.
use Rattle.std.specs.Prelude.{◌≡◌, ℕ, ◌+◌, Bool, true, false, List, [], length, Result}
use Rattle.std.proofs.lemmas.List.Edits.{sets}
use Rattle.model.specs.State.{State}
use Rattle.model.specs.WellFormed.{well_formed}
use Rattle.listing.specs.Answer.{shown_by}
use Rattle.listing.specs.Listing.{answered}
use Rattle.listing.specs.declared.Shown.{Shown}
use Rattle.session.specs.declared.Fed.{Fed}
use Rattle.session.specs.declared.Phase.{Phase}
use Rattle.session.specs.declared.Phase.TheVariants as phase
use Rattle.session.specs.declared.Written.{Written}
use Rattle.session.specs.Session.{Ended, Feeding, Progress, first, later, progress_of, stopped}
use Rattle.model.specs.declared.answer.Refusal.{Refusal}
use Rattle.model.specs.declared.event.Event.{Event}

-- The phases of a session.
abbrev pub has_stopped : Phase → Bool
has_stopped phase.First = false
has_stopped phase.Later = false
has_stopped phase.Stopped = true

abbrev pub is_later : Phase → Bool
is_later phase.First = false
is_later phase.Later = true
is_later phase.Stopped = false

-- A session of each phase that holds no bytes of a line.
abbrev pub blank_in : Phase → State → Progress
blank_in phase.First s = first []
blank_in phase.Later s = later 0 s []
blank_in phase.Stopped s = stopped

-- A line was answered: the next state, which is as well formed as the one before, and what is shown.
pub record AnsweredBy (formed : Bool) (parsed : Result Event Refusal) (r : Shown) (before after : State) : Type 0 where
  pub next : after ≡ (answered before parsed).next
  pub kept : formed ≡ well_formed after
  pub shown : r ≡ shown_by (answered before parsed)

-- A line was ended: the session after it, and its record at the start of the buffer.
pub record EndedBy (e : Ended) (r : Written) (before after : List ℕ) : Type 0 where
  pub progress : progress_of r.session ≡ e.progress
  pub wrote : r.wrote ≡ length e.text
  pub written : after ≡ sets before 0 e.text

-- What is left of a chunk from a place on was fed, with the records from a place of the buffer on.
pub record FedFrom (from at : ℕ) (f : Feeding) (r : Fed) (before after : List ℕ) : Type 0 where
  pub progress : progress_of r.session ≡ f.progress
  pub used : r.used ≡ from + f.used
  pub wrote : r.wrote ≡ at + length f.text
  pub written : after ≡ sets before at f.text
