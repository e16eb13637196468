-- `flush` meets its contract: the tests of its rule in their order, and then its effect. Assumes nothing.
use mathlib.Core.Option.{some}
use Rattle.model.specs.Answers.{first_of}
use Rattle.promise.proofs.Outcomes.{refused, done}
use Rattle.model.specs.Step.{acted, rule_of}
use Rattle.model.specs.declared.event.Action.TheVariants.{Flush}
use Rattle.status_events.proofs.flush.Goals as goal

pub returns : goal.returns
unfolding acted rule_of first_of
returns c s v there is =
    let a = c.args in done s (some v) (rule_of s v a.mode Flush) {x = 0} (rw (← c.is_user.ensures, c.if-is_user.false, is, c.if-locked.false))

pub returns-then-is_user : goal.returns-then-is_user
returns-then-is_user c s v there is = unfold acted rule_of first_of in let a = c.args in refused s (some v) (rule_of s v a.mode Flush) (rw (← c.is_user.ensures, c.if-is_user.true))

pub returns-then-locked : goal.returns-then-locked
returns-then-locked c s v there is = unfold acted rule_of first_of in let a = c.args in refused s (some v) (rule_of s v a.mode Flush) (rw (← c.is_user.ensures, c.if-is_user.false, is, c.if-locked.true))
