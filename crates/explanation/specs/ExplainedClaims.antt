-- What is proved of the explanation of an access (proofs/Explains.antt), for every state, access and value that a write stores. Assumes
-- nothing.
use Rattle.std.specs.Prelude.{◌≡◌, Bool, true, false, ◌↔◌, ℕ, zero, suc, ◌/◌, ◌%◌, ◌^◌, ◌≤◌, ◌<◌, Option, None, Some}
use Rattle.model.specs.declared.answer.Answer.{Answer}
use Rattle.model.specs.declared.event.Event.TheVariants.{Made}
use Rattle.model.specs.declared.quantity.Access.{Access}
use Rattle.model.specs.declared.quantity.Level.{Level}
use Rattle.model.specs.declared.quantity.Mode.{Mode}
use Rattle.model.specs.declared.quantity.Page.{Page}
use Rattle.model.specs.declared.quantity.Processor.{Processor}
use Rattle.model.specs.Answers.{number_of, value_of}
use Rattle.model.specs.Memory.{needed, denies}
use Rattle.model.specs.State.{State, processors, pages}
use Rattle.model.specs.Step.{mode_of, step}
use Rattle.model.specs.WellFormed.{well_formed}
use Rattle.access_events.specs.Access.{accessed}
use Rattle.explanation.specs.declared.Denial.{Denial}
use Rattle.explanation.specs.declared.Explanation.{Explanation}
use Rattle.explanation.specs.Explained.{denial_of, explanation_of}

-- Levels deny, and this is who receives the intercept.
pub record DeniedTo (e : Explanation) (r : Option Level) : Type 0 where
  pub first : Option Denial
  pub second : Option Denial
  pub third : Option Denial
  pub is : e ≡ Explanation.Levels r first second third

-- The answer a has the explanation e: `allowed` exactly where the access is done, `host` exactly at 11, a receiving level exactly at 9,
-- of which it is the value, and `none` exactly at 10.
pub record Explains (a : Answer) (e : Explanation) : Type 0 where
  pub allowed : (e ≡ Explanation.Allowed) ↔ (number_of a ≡ 0)
  pub host : (e ≡ Explanation.Host) ↔ (number_of a ≡ 11)
  pub received : (l : Level) → DeniedTo e (Some l) ↔ ((number_of a ≡ 9) × (value_of a ≡ l.0))
  pub unreceived : DeniedTo e None ↔ (number_of a ≡ 10)

-- The explanation of an access is that of the answer which the access gets.
abbrev pub AnswerExplained : Type 0
AnswerExplained = (s : State) (v : Processor) (mode : ℕ) (p : Page) (access : Access) (x : ℕ)
    → well_formed s ≡ true → v.0 < processors s → mode ≤ 1 → p.0 < pages s
    → Explains (step s (Made v mode (accessed access p x))).answer (explanation_of s v.0 (mode_of mode) p.0 access)

-- What an explanation says of level t.
abbrev pub denial_in : Explanation → ℕ → Option Denial
denial_in Explanation.Allowed t = None
denial_in Explanation.Host t = None
denial_in (Explanation.Levels r first second third) zero = None
denial_in (Explanation.Levels r first second third) (suc zero) = first
denial_in (Explanation.Levels r first second third) (suc (suc zero)) = second
denial_in (Explanation.Levels r first second third) (suc (suc (suc zero))) = third
denial_in (Explanation.Levels r first second third) (suc (suc (suc (suc t)))) = None

abbrev pub is_denial : Option Denial → Bool
is_denial None = false
is_denial (Some denial) = true

-- A level denies in the explanation exactly where it denies the access, and no denying level is left out.
pub record Shows (s : State) (v : ℕ) (mode : Mode) (p : ℕ) (access : Access) (t : ℕ) : Type 0 where
  pub denial : denial_in (explanation_of s v mode p access) t ≡ denial_of s v mode p access t
  pub denying : is_denial (denial_in (explanation_of s v mode p access) t) ≡ denies s v mode p access t

abbrev pub DenialsShown : Type 0
DenialsShown = (s : State) (v : ℕ) (mode : Mode) (p : ℕ) (access : Access) (t : ℕ) → Shows s v mode p access t

-- What a denial shows fits together: the mask lacks the wanted bit, which is the one that the access needs where MBEC counts as shown.
pub record Fits (mode : Mode) (access : Access) (mask wanted : ℕ) (mbec : Bool) : Type 0 where
  pub lacks : mask / wanted % 2 ≡ 0
  pub needs : wanted ≡ 2 ^ needed mbec mode access

abbrev pub FitsIn : Mode → Access → Option Denial → Type 0
FitsIn mode access None = Unit
FitsIn mode access (Some denial) = Fits mode access denial.mask denial.wanted denial.mbec

abbrev pub DenialsFit : Type 0
DenialsFit = (s : State) (v : ℕ) (mode : Mode) (p : ℕ) (access : Access) (t : ℕ) → FitsIn mode access (denial_of s v mode p access t)
