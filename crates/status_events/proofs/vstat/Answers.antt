-- `vstat` meets its contract: the tests of its rule in their order, and then its effect. Assumes nothing.
use mathlib.Core.Option.{some}
use Rattle.model.specs.Answers.{first_of}
use Rattle.promise.proofs.Outcomes.{refused, done}
use Rattle.model.specs.Step.{acted, rule_of}
use Rattle.model.specs.declared.event.Action.TheVariants.{Vstat}
use Rattle.model.proofs.Sets.{any-bits}
use Rattle.model.specs.Memory.{mbec_on}
use Rattle.model.specs.State.{active, enabled_on}
use Rattle.status_events.proofs.vstat.Goals as goal

pub returns : goal.returns
unfolding acted rule_of first_of mbec_on active enabled_on
returns c s v h =
    let a = c.args in done s (some v) (rule_of s v a.mode Vstat) {x = c.pack-word.result} (rw (← c.is_user.ensures, c.if-is_user.false, c.pack-word.ensures, c.one_if.ensures, c.enabled_set-enabled.ensures, c.mbec_set-mbecs.ensures, c.active_of-actor.ensures, ← h.shaped, ← h.holds) (simp any-bits))

pub returns-then-is_user : goal.returns-then-is_user
returns-then-is_user c s v h = unfold acted rule_of first_of mbec_on active enabled_on in let a = c.args in refused s (some v) (rule_of s v a.mode Vstat) (rw (← c.is_user.ensures, c.if-is_user.true))
