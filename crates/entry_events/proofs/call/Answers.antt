-- `call` meets its contract: the tests of its rule in their order, and then its effect. Assumes nothing.
use mathlib.Core.Path.{refl, sym, ◌∙◌}
use mathlib.Core.Option.{some}
use borrow.Author.Tests.{ne_eqb}
use Rattle.model.proofs.Found.{next_up-some, next_up-none}
use Rattle.model.specs.Answers.{first_of}
use Rattle.promise.proofs.Outcomes.{record-stays, record-changes, the-actor}
use Rattle.model.specs.Step.{acted, rule_of}
use Rattle.model.specs.declared.event.Action.TheVariants.{Call}
use Rattle.model.specs.Entry.{called}
use Rattle.model.specs.Events.{own}
use Rattle.entry_events.proofs.call.Goals as goal

pub returns : goal.returns
unfolding acted rule_of first_of own called
returns c s v h =
    let a = c.args in record-changes s (some v) (rule_of s v a.mode (Call a.length)) h _ refl {x = c.in-Some.next.0} (rw (the-actor h, h.shaped, h.holds, c.if-length.false, ← c.is_user.ensures, c.if-is_user.false, ← c.active_of-actor.ensures, ← c.private_of.ensures, ← c.has_bit.ensures, c.if-not-has_bit.false, ← c.shared_of.ensures, c.if-not-shared_of.false, (next_up-some _ _ (sym c.next_up.ensures ∙ c.in-Some.is)).0, (next_up-some _ _ (sym c.next_up.ensures ∙ c.in-Some.is)).1)) (rw (c.vtl_call.ensures, (next_up-some _ _ (sym c.next_up.ensures ∙ c.in-Some.is)).1))

pub returns-then-length : goal.returns-then-length
returns-then-length c s v h = unfold acted rule_of first_of own in let a = c.args in record-stays s (some v) (rule_of s v a.mode (Call a.length)) h (rw (the-actor h, h.shaped, h.holds, c.if-length.true))

pub returns-then-is_user : goal.returns-then-is_user
returns-then-is_user c s v h = unfold acted rule_of first_of own in let a = c.args in record-stays s (some v) (rule_of s v a.mode (Call a.length)) h (rw (the-actor h, h.shaped, h.holds, c.if-length.false, ← c.is_user.ensures, c.if-is_user.true))

pub returns-then-not-has_bit : goal.returns-then-not-has_bit
returns-then-not-has_bit c s v h = unfold acted rule_of first_of own in let a = c.args in record-stays s (some v) (rule_of s v a.mode (Call a.length)) h (rw (the-actor h, h.shaped, h.holds, c.if-length.false, ← c.is_user.ensures, c.if-is_user.false, ← c.active_of-actor.ensures, ← c.private_of.ensures, ← c.has_bit.ensures, c.if-not-has_bit.true))

pub returns-then-not-shared_of : goal.returns-then-not-shared_of
returns-then-not-shared_of c s v h = unfold acted rule_of first_of own in let a = c.args in record-stays s (some v) (rule_of s v a.mode (Call a.length)) h (rw (the-actor h, h.shaped, h.holds, c.if-length.false, ← c.is_user.ensures, c.if-is_user.false, ← c.active_of-actor.ensures, ← c.private_of.ensures, ← c.has_bit.ensures, c.if-not-has_bit.false, ← c.shared_of.ensures, ne_eqb _ 0 c.if-not-shared_of.true))

pub returns-in_default : goal.returns-in_default
returns-in_default c s v h = unfold acted rule_of first_of own in let a = c.args in record-stays s (some v) (rule_of s v a.mode (Call a.length)) h (rw (the-actor h, h.shaped, h.holds, c.if-length.false, ← c.is_user.ensures, c.if-is_user.false, ← c.active_of-actor.ensures, ← c.private_of.ensures, ← c.has_bit.ensures, c.if-not-has_bit.false, ← c.shared_of.ensures, c.if-not-shared_of.false, next_up-none _ _ (sym c.next_up.ensures ∙ c.in_default.is)))
