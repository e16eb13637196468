-- `line_reason::tell` meets its contract: the line says an event, or is malformed. Assumes nothing.
use Rattle.std.proofs.Common.{refl, ◌∙◌}
use Rattle.reasoned.proofs.ReasonedLines.{shown-malformed}
use Rattle.state.specs.Lent.{lent}
use Rattle.reasoned.proofs.line_reason.tell.Goals as goal

pub returns-in-Ok : goal.returns-in-Ok
returns-in-Ok c =
    let a = c.args in
    rw (← c.asked_by-asked.ensures, c.cause_of-cause.ensures a.words.now, c.in-Ok.is) c.tell_event.ensures

pub returns-in-Err : goal.returns-in-Err
returns-in-Err c =
    let a = c.args in
    let s = lent a.setup a.parts.now.levels a.parts.now.masks a.parts.now.vps a.words.now in
    rw (← c.asked_by-asked.ensures, c.cause_of-cause.ensures a.words.now, c.in-Err.is)
    (record { next = refl; shown = c.show.ensures ∙ shown-malformed s c.in-Err.refusal; why = c.reason_for.ensures })
