-- `crm` meets its contract: the tests of its rule in their order, and then its effect. Assumes nothing.
use mathlib.Core.Path.{refl}
use mathlib.Core.Option.{some}
use borrow.Author.Tests.{eq-eqb, ne_eqb}
use Rattle.model.specs.Answers.{first_of}
use Rattle.promise.proofs.Outcomes.{record-stays, record-changes, the-actor}
use Rattle.model.specs.Step.{acted, rule_of}
use Rattle.model.specs.declared.event.Action.TheVariants.{Crm}
use Rattle.watch.proofs.crm.Goals as goal

pub returns-then-not-control_register-four : goal.returns-then-not-control_register-four
unfolding acted rule_of first_of
returns-then-not-control_register-four c s v h =
    let a = c.args in
    record-stays s (some v) (rule_of s v a.mode (Crm a.control_register a.mask)) h
    (rw (the-actor h, c.if-not-control_register-four.true))

pub returns-then-is_user : goal.returns-then-is_user
unfolding acted rule_of first_of
returns-then-is_user c s v h =
    let a = c.args in
    record-stays s (some v) (rule_of s v a.mode (Crm a.control_register a.mask)) h
    (rw (the-actor h, c.if-not-control_register-four.false, ← c.is_user.ensures, c.if-is_user.true))

pub returns-then-actor-eq0 : goal.returns-then-actor-eq0
unfolding acted rule_of first_of
returns-then-actor-eq0 c s v h =
    let a = c.args in
    record-stays s (some v) (rule_of s v a.mode (Crm a.control_register a.mask)) h
    (rw (the-actor h, c.if-not-control_register-four.false, ← c.is_user.ensures, c.if-is_user.false, ← c.active_of-actor.ensures, eq-eqb _ _ c.if-actor-eq0.true))

pub returns : goal.returns
unfolding acted rule_of first_of
returns c s v h =
    let a = c.args in
    record-changes s (some v) (rule_of s v a.mode (Crm a.control_register a.mask)) h _ refl {x = 0}
    (rw (the-actor h, c.if-not-control_register-four.false, ← c.is_user.ensures, c.if-is_user.false, ← c.active_of-actor.ensures, ne_eqb _ _ c.if-actor-eq0.false))
    (rw (c.set_watch.ensures, c.with_mask.ensures, c.watch_of-watch.ensures, c.active_of-actor.ensures))
