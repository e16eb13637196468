-- `tpr` meets its contract: the tests of its rule in their order, and then its effect. Assumes nothing.
use mathlib.Core.Path.{refl}
use mathlib.Core.Option.{some}
use borrow.Author.Tests.{lt-ltb, le-ltb}
use Rattle.model.specs.Answers.{first_of}
use Rattle.promise.proofs.Outcomes.{record-stays, record-changes}
use Rattle.model.specs.Step.{acted, rule_of}
use Rattle.model.specs.declared.event.Action.TheVariants.{Tpr}
use Rattle.register_events.proofs.tpr.Goals as goal

pub returns : goal.returns
unfolding acted rule_of first_of
returns c s v h =
    let a = c.args in record-changes s (some v) (rule_of s v a.mode (Tpr a.class)) h _ refl {x = 0} (rw (le-ltb _ _ c.if-class-gt-HIGHEST_CLASS.false, ← c.is_user.ensures, c.if-is_user.false)) (rw (c.set_tpr.ensures, c.active_of-actor.ensures))

pub returns-then-class-gt-HIGHEST_CLASS : goal.returns-then-class-gt-HIGHEST_CLASS
returns-then-class-gt-HIGHEST_CLASS c s v h = unfold acted rule_of first_of in let a = c.args in record-stays s (some v) (rule_of s v a.mode (Tpr a.class)) h (rw (lt-ltb _ _ c.if-class-gt-HIGHEST_CLASS.true))

pub returns-then-is_user : goal.returns-then-is_user
returns-then-is_user c s v h = unfold acted rule_of first_of in let a = c.args in record-stays s (some v) (rule_of s v a.mode (Tpr a.class)) h (rw (le-ltb _ _ c.if-class-gt-HIGHEST_CLASS.false, ← c.is_user.ensures, c.if-is_user.true))
