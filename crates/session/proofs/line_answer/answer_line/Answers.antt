-- `session::line_answer::answer_line` meets its contract: the line says an event, or is malformed. Assumes nothing.
use Rattle.session.proofs.Ending.{told-malformed}
use Rattle.state.specs.Lent.{lent}
use Rattle.std.proofs.Common.{sym, ◌∙◌}
use Rattle.session.proofs.line_answer.answer_line.Goals as goal

pub returns-in-Ok : goal.returns-in-Ok
returns-in-Ok c =
    rw (sym c.parse-parsed.ensures ∙ c.in-Ok.is)
    c.answer_event.ensures

pub returns-in-Err : goal.returns-in-Err
returns-in-Err c =
    let a = c.args in
    let told = told-malformed (lent a.setup a.parts.now.levels a.parts.now.masks a.parts.now.vps a.words.now) _ _
    (sym c.parse-parsed.ensures ∙ c.in-Err.is) in
    record { next = told.0; kept = c.requires; shown = c.show.ensures ∙ told.1 }

pub answer_event-requires : goal.answer_event-requires
answer_event-requires c = c.requires
