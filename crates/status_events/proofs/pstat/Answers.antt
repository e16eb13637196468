-- `pstat` meets its contract: the tests of its rule in their order, and then its effect. Assumes nothing.
use mathlib.Core.Option.{some}
use Rattle.model.specs.Answers.{first_of}
use Rattle.promise.proofs.Outcomes.{refused, done}
use Rattle.model.specs.Step.{acted, rule_of}
use Rattle.partition.specs.PartitionView.{partition_of}
use Rattle.model.specs.declared.event.Action.TheVariants.{Pstat}
use Rattle.model.specs.State.{enabled_for, mbec_for, top, max_level_of}
use Rattle.status_events.proofs.pstat.Goals as goal

pub returns : goal.returns
unfolding acted rule_of first_of partition_of enabled_for mbec_for top max_level_of
returns c s v masks shaped keeps =
    let a = c.args in done s (some v) (rule_of s v a.mode Pstat) {x = c.pack-word.result} (rw (← c.is_user.ensures, c.if-is_user.false, c.pack-word.ensures, c.mbec_levels-mbec.ensures, c.enabled_levels-enabled.ensures, shaped, keeps))

pub returns-then-is_user : goal.returns-then-is_user
returns-then-is_user c s v masks shaped keeps = unfold acted rule_of first_of partition_of enabled_for mbec_for top max_level_of in let a = c.args in refused s (some v) (rule_of s v a.mode Pstat) (rw (← c.is_user.ensures, c.if-is_user.true))
