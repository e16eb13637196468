-- What the code's parts give: an answer with its reason, a machine that was opened, and a line that was answered. Assumes nothing.
use Rattle.std.specs.Prelude.{List, [], ◌∷◌, ◌≡◌, ℕ}
use Rattle.std.proofs.lemmas.List.Edits.{sets}
use Rattle.listing.specs.Answer.{level_shown}
use Rattle.model.specs.Answers.{number_of, value_of}
use Rattle.model.specs.Fresh.{fresh}
use Rattle.model.specs.declared.answer.Answer.{Answer}
use Rattle.model.specs.declared.machine.FirstLine.{FirstLine}
use Rattle.model.specs.declared.quantity.Level.{Level}
use Rattle.lockstep.specs.Lockstep.{Stepped}
use Rattle.lockstep.specs.MachineWords.{state_in, words_of}
use Rattle.lockstep.specs.ReasonNumbers.{reason_number}
use Rattle.lockstep.specs.declared.Reply.{Reply}

-- An answer, where this level is active.
abbrev pub reply_of : Answer → Level → Reply
reply_of a active = record {
  answer = number_of a;
  value = value_of a;
  level = level_shown (number_of a) active;
  reason = reason_number a;
}

-- The words of the setup that a first line says.
abbrev pub setup_said : FirstLine → List ℕ
setup_said f =
    f.processors ∷ f.max_level.0 ∷ f.pages ∷ f.dr6_shared ∷ f.host_mask ∷ f.smep ∷ []

-- The fresh machine of a first line stands in the words.
pub record OpenedAs (f : FirstLine) (before after : List ℕ) : Type 0 where
  pub words : after ≡ sets before 0 (words_of (fresh f))
  pub state : state_in after ≡ fresh f

-- A line was answered on the words, which are now these.
pub record AnsweredIn (s : Stepped) (r : Reply) (after : List ℕ) : Type 0 where
  pub reply : r ≡ s.reply
  pub words : after ≡ s.words
  pub state : state_in after ≡ s.state
