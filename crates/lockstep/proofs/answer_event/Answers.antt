-- `lockstep::answer_event` meets its contract: the state of the words makes the step, and its parts are stored. Assumes nothing.
use mathlib.Core.Path.{ap, ◌∙◌}
use Prim.Native.Nat.{◌%◌, ◌<◌}
use native.Mathlib.Omega.{arith}
use Rattle.model.specs.State.{level, active_of}
use Rattle.state.specs.Lent.{machine_of}
use Rattle.step.proofs.LentParts.{vps-at}
use Rattle.lockstep.proofs.LineTold.{event-told}
use Rattle.lockstep.proofs.answer_event.Goals as goal

pub returns : goal.returns
unfolding machine_of active_of
returns c =
    let o = c.step-answer in
    let vp = c.processor_of-vp in
    let low : vp.result.0 % 4 < 4 = omega arith in
    event-told c.args.machine.now c.requires c.args.event o.result c.setup_in-setup.result
    c.parts_in-parts.result.levels c.parts_in-parts.result.masks c.parts_in-parts.result.vps c.words_end-end.result c.setup_in-setup.ensures
    c.parts_in-parts.ensures.levels c.parts_in-parts.ensures.masks c.parts_in-parts.ensures.records c.words_end-end.ensures o.new.parts.levels
    o.new.parts.masks o.new.parts.vps o.new.words c.store_parts.ensures.sizes o.auto.words
    o.ensures _ c.store_parts.ensures.stored vp.result vp.ensures c.level_on-active.result
    (c.level_on-active.ensures
    ∙ rw (
      ap level c.active_of.ensures,
      ← vps-at o.new.parts.vps (vp.result.0 % 4) low,
      c.setup_in-setup.ensures,
    ))
    _ c.told.ensures
