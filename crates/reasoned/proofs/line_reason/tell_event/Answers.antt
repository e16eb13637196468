-- `line_reason::tell_event` meets its contract: the machine makes the step, and the level is read after it. Assumes nothing.
use Rattle.std.proofs.Common.{◌%◌, ◌<◌, ap, ◌∙◌, arith}
use Rattle.model.specs.State.{active_of, level}
use Rattle.model.specs.Step.{Outcome}
use Rattle.reason.specs.Reasons.{reason_for}
use Rattle.session.proofs.Ending.{told-next, told-shown}
use Rattle.state.specs.Lent.{lent, machine_of}
use Rattle.step.proofs.KnownFormed.{step-as-if}
use Rattle.step.proofs.LentParts.{vps-at}
use Rattle.reasoned.proofs.line_reason.tell_event.Goals as goal

pub returns : goal.returns
unfolding machine_of active_of
returns c =
    let a = c.args in
    let s = lent a.setup a.parts.now.levels a.parts.now.masks a.parts.now.vps a.words.now in
    let low : c.processor_of-vp.result.0 % 4 < 4 = omega arith in
    record {
      next = told-next s _ a.event c.well_formed-formed.result c.well_formed-formed.ensures _ c.step_if-answer.ensures;
      shown =
          c.show.ensures
          ∙ told-shown s _ a.event c.well_formed-formed.result c.well_formed-formed.ensures _ c.step_if-answer.ensures c.processor_of-vp.result c.processor_of-vp.ensures c.level_on-active.result
          (c.level_on-active.ensures ∙ rw (ap level c.active_of.ensures, ← vps-at _ _ low));
      why = c.reason_for.ensures ∙ ap (λ (o : Outcome). reason_for a.cause o.answer) (c.step_if-answer.ensures ∙ step-as-if c.well_formed-formed.result s a.event c.well_formed-formed.ensures);
    }
