-- `script::line_events::event` meets its contract: by the kind of its word.
-- Assumes nothing.
use mathlib.Core.Path.{sym}
use lib.ListN.{get_or}
use Rattle.model.specs.declared.event.Event.TheVariants.{Made}
use Rattle.script.specs.EventForms.{processor}
use Rattle.script.specs.EventWords.{action_form}
use Rattle.script.proofs.Saying.{after-made}
use Rattle.script.proofs.line_events.event.Goals as goal

pub returns-in-Made : goal.returns-in-Made
returns-in-Made c =
    let values = c.args.values.now in
    let form = action_form c.in-Made.action_word in
    rw (c.in-Made.is, c.action.ensures)
    (sym (after-made form.count (Made (processor (get_or values 0 0)) (get_or values 1 0)) form.value 2 values))

pub returns-in-Interrupt : goal.returns-in-Interrupt
returns-in-Interrupt c = rw c.in-Interrupt.is
