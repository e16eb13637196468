-- `session::line_answer::answer_event` meets its contract: the machine makes the step, and the level is read after it. Assumes nothing.
use Rattle.std.proofs.Common.{◌%◌, ◌<◌, ap, ◌∙◌, arith}
use Rattle.model.specs.State.{level, active_of}
use Rattle.session.proofs.Ending.{told-formed, told-next, told-shown}
use Rattle.state.specs.Lent.{lent, machine_of}
use Rattle.step.proofs.LentParts.{vps-at}
use Rattle.session.proofs.line_answer.answer_event.Goals as goal

pub returns : goal.returns
unfolding machine_of active_of
returns c =
    let a = c.args in
    let done = c.step_if-answer in
    let on = c.processor_of-vp in
    let active = c.level_on-active in
    let s = lent a.setup a.parts.now.levels a.parts.now.masks a.parts.now.vps a.words.now in
    let low : on.result.0 % 4 < 4 = omega arith in
    record {
      next = told-next s _ a.event a.formed c.requires _ done.ensures;
      kept = told-formed s _ a.event a.formed c.requires _ done.ensures;
      shown =
          c.show.ensures
          ∙ told-shown s _ a.event a.formed c.requires _ done.ensures on.result on.ensures active.result
          (active.ensures ∙ rw (ap level c.active_of.ensures, ← vps-at _ _ low));
    }
