-- `caps` meets its contract: the tests of its rule in their order, and then its effect. Assumes nothing.
use mathlib.Core.Option.{some}
use Rattle.model.specs.Answers.{first_of}
use Rattle.promise.proofs.Outcomes.{refused, done}
use Rattle.model.specs.Step.{acted, rule_of}
use Rattle.model.specs.declared.event.Action.TheVariants.{Caps}
use Rattle.status_events.proofs.caps.Goals as goal

pub returns : goal.returns
unfolding acted rule_of first_of
returns c s v shaped =
    let a = c.args in done s (some v) (rule_of s v a.mode Caps) {x = c.pack-word.result} (rw (← c.is_user.ensures, c.if-is_user.false, c.pack-word.ensures, c.one_if.ensures, c.levels_above_zero-mbec.ensures, ← shaped))

pub returns-then-is_user : goal.returns-then-is_user
returns-then-is_user c s v shaped = unfold acted rule_of first_of in let a = c.args in refused s (some v) (rule_of s v a.mode Caps) (rw (← c.is_user.ensures, c.if-is_user.true))
