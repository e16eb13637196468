-- A step on a state that is known to be well formed or not is the step. Assumes nothing.
use mathlib.Core.Path.{◌≡◌, refl}
use mathlib.Core.Bool.{Bool, true, false, cond, ◌&&◌}
use lib.Dec.{leb}
use borrow.Author.Tests.{le-leb}
use Rattle.model.proofs.Formed.{four-processors}
use Rattle.model.specs.declared.answer.Answer.TheVariants.{Refused}
use Rattle.model.specs.declared.answer.Refusal.{Refusal}
use Rattle.model.specs.declared.event.Event.{Event}
use Rattle.model.specs.State.{State, processors}
use Rattle.model.specs.Step.{Outcome, ruled, step}
use Rattle.model.specs.WellFormed.{well_formed}
use Rattle.step.specs.Stepped.{step_if}

-- A well-formed state has at most four processors.
pub step-as-if : (formed : Bool) (s : State) (e : Event) → formed ≡ well_formed s → step_if formed s e ≡ step s e
unfolding step_if step
step-as-if formed s e h = rw h (go (well_formed s) refl)
  where
    refused : Outcome
    refused = record { answer = Refused Refusal.NotWellFormed; next = s }

    go : (b : Bool) → well_formed s ≡ b → cond (b && leb (processors s) 4) (ruled s e) refused ≡ cond b (ruled s e) refused
    go true w = rw (le-leb _ _ (four-processors s w))
    go false w = refl
