-- A step on a state of which it is known whether it is well formed. Assumes nothing.
use Rattle.std.specs.Prelude.{Bool, cond, ◌&&◌, leb}
use Rattle.model.specs.declared.answer.Answer.TheVariants.{Refused}
use Rattle.model.specs.declared.answer.Refusal.{Refusal}
use Rattle.model.specs.declared.event.Event.{Event}
use Rattle.model.specs.State.{State, processors}
use Rattle.model.specs.Step.{Outcome, ruled}

-- One event on a state of which it is known whether it is well formed. A machine has room for four processors.
unfoldable pub step_if : Bool → State → Event → Outcome
step_if formed s e = cond (formed && leb (processors s) 4) (ruled s e) (record { answer = Refused Refusal.NotWellFormed; next = s })
