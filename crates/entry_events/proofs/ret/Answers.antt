-- `ret` meets its contract: the tests of its rule in their order, and then its effect. Assumes nothing.
use mathlib.Core.Path.{refl}
use mathlib.Core.Option.{some}
use borrow.Author.Tests.{lt-ltb, le-ltb, eq-eqb, ne_eqb}
use Rattle.model.specs.Answers.{first_of}
use Rattle.promise.proofs.Outcomes.{record-stays, record-changes, the-actor}
use Rattle.model.specs.Step.{acted, rule_of}
use Rattle.model.specs.declared.event.Action.TheVariants.{Ret}
use Rattle.entry_events.proofs.ret.Goals as goal

pub returns : goal.returns
unfolding acted rule_of first_of
returns c s v h =
    let a = c.args in record-changes s (some v) (rule_of s v a.mode (Ret a.length)) h _ refl {x = c.active_of-active.result.0} (rw (the-actor h, h.shaped, h.holds, c.if-length.false, ← c.is_user.ensures, c.if-is_user.false, ← c.active_of-actor.ensures, ne_eqb _ 0 c.if-actor-eq0.false, ← c.shared_of.ensures, le-ltb _ _ c.if-shared_of-gt1.false, ← c.vtl_return.ensures, ← c.active_of-active.ensures)) c.vtl_return.ensures

pub returns-then-length : goal.returns-then-length
returns-then-length c s v h = unfold acted rule_of first_of in let a = c.args in record-stays s (some v) (rule_of s v a.mode (Ret a.length)) h (rw (the-actor h, h.shaped, h.holds, c.if-length.true))

pub returns-then-is_user : goal.returns-then-is_user
returns-then-is_user c s v h = unfold acted rule_of first_of in let a = c.args in record-stays s (some v) (rule_of s v a.mode (Ret a.length)) h (rw (the-actor h, h.shaped, h.holds, c.if-length.false, ← c.is_user.ensures, c.if-is_user.true))

pub returns-then-actor-eq0 : goal.returns-then-actor-eq0
returns-then-actor-eq0 c s v h = unfold acted rule_of first_of in let a = c.args in record-stays s (some v) (rule_of s v a.mode (Ret a.length)) h (rw (the-actor h, h.shaped, h.holds, c.if-length.false, ← c.is_user.ensures, c.if-is_user.false, ← c.active_of-actor.ensures, eq-eqb _ 0 c.if-actor-eq0.true))

pub returns-then-shared_of-gt1 : goal.returns-then-shared_of-gt1
returns-then-shared_of-gt1 c s v h = unfold acted rule_of first_of in let a = c.args in record-stays s (some v) (rule_of s v a.mode (Ret a.length)) h (rw (the-actor h, h.shaped, h.holds, c.if-length.false, ← c.is_user.ensures, c.if-is_user.false, ← c.active_of-actor.ensures, ne_eqb _ 0 c.if-actor-eq0.false, ← c.shared_of.ensures, lt-ltb _ _ c.if-shared_of-gt1.true))
