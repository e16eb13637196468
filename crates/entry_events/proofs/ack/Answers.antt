-- `ack` meets its contract: the tests of its rule in their order, and then its effect. Assumes nothing.
use mathlib.Core.Path.{refl, sym, ◌∙◌}
use mathlib.Core.Option.{some}
use Rattle.model.proofs.Searches.{number-above, number-zero}
use Rattle.model.specs.Answers.{first_of}
use Rattle.promise.proofs.Outcomes.{record-stays, record-changes, the-actor}
use Rattle.model.specs.Step.{acted, rule_of}
use Rattle.model.specs.declared.event.Action.TheVariants.{Ack}
use Rattle.model.specs.Entry.{acknowledged}
use Rattle.model.specs.Events.{own}
use Rattle.entry_events.proofs.ack.Goals as goal

pub returns : goal.returns
unfolding acted rule_of first_of own acknowledged
returns c s v h =
    let found = number-above _ (sym c.highest_ready.ensures ∙ c.in-Some.is) in
    let a = c.args in record-changes s (some v) (rule_of s v a.mode Ack) h _ refl {x = c.in-Some.vector} (rw (the-actor h, h.shaped, h.holds, ← c.is_user.ensures, c.if-is_user.false, ← c.active_of-actor.ensures, found.0, ← c.private_of.ensures, ← c.has_bit.ensures, c.if-not-has_bit.false, found.1)) (rw (c.set_pending.ensures, ← found.1, c.active_of-actor.ensures))

pub returns-then-is_user : goal.returns-then-is_user
returns-then-is_user c s v h = unfold acted rule_of first_of own in let a = c.args in record-stays s (some v) (rule_of s v a.mode Ack) h (rw (the-actor h, h.shaped, h.holds, ← c.is_user.ensures, c.if-is_user.true))

pub returns-in_default : goal.returns-in_default
returns-in_default c s v h = unfold acted rule_of first_of own in let a = c.args in record-stays s (some v) (rule_of s v a.mode Ack) h (rw (the-actor h, h.shaped, h.holds, ← c.is_user.ensures, c.if-is_user.false, ← c.active_of-actor.ensures, number-zero _ (sym c.highest_ready.ensures ∙ c.in_default.is)))

pub returns-then-not-has_bit : goal.returns-then-not-has_bit
unfolding acted rule_of first_of own
returns-then-not-has_bit c s v h = let found = number-above _ (sym c.highest_ready.ensures ∙ c.in-Some.is) in let a = c.args in record-stays s (some v) (rule_of s v a.mode Ack) h (rw (the-actor h, h.shaped, h.holds, ← c.is_user.ensures, c.if-is_user.false, ← c.active_of-actor.ensures, found.0, ← c.private_of.ensures, ← c.has_bit.ensures, c.if-not-has_bit.true))
