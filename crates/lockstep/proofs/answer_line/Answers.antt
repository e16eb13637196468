-- `lockstep::answer_line` meets its contract: the line says an event, or is malformed. Assumes nothing.
use mathlib.Core.Path.{sym, ◌∙◌}
use Rattle.lockstep.proofs.LineTold.{malformed-told}
use Rattle.lockstep.proofs.answer_line.Goals as goal

pub returns-in-Ok : goal.returns-in-Ok
returns-in-Ok c =
    rw (sym c.parse-parsed.ensures ∙ c.in-Ok.is) c.answer_event.ensures

pub returns-in-Err : goal.returns-in-Err
returns-in-Err c =
    rw (sym c.parse-parsed.ensures ∙ c.in-Err.is)
    (malformed-told c.args.machine.now c.requires c.in-Err.refusal _ c.told.ensures)
