-- `cri` meets its contract: the tests of its rule in their order, and then its effect. Assumes nothing.
use mathlib.Core.Path.{refl}
use mathlib.Core.Option.{some}
use borrow.Author.Tests.{eq-eqb, ne_eqb}
use Rattle.model.specs.Answers.{first_of}
use Rattle.promise.proofs.Outcomes.{record-stays, record-changes, the-actor}
use Rattle.model.specs.Step.{acted, rule_of}
use Rattle.model.specs.declared.event.Action.TheVariants.{Cri}
use Rattle.watch.proofs.cri.Goals as goal

pub returns-then-intercept_reserved_set : goal.returns-then-intercept_reserved_set
unfolding acted rule_of first_of
returns-then-intercept_reserved_set c s v h =
    let a = c.args in
    record-stays s (some v) (rule_of s v a.mode (Cri a.word)) h
    (rw (the-actor h, ← c.intercept_reserved_set.ensures, c.if-intercept_reserved_set.true))

pub returns-then-is_user : goal.returns-then-is_user
unfolding acted rule_of first_of
returns-then-is_user c s v h =
    let a = c.args in
    record-stays s (some v) (rule_of s v a.mode (Cri a.word)) h
    (rw (the-actor h, ← c.intercept_reserved_set.ensures, c.if-intercept_reserved_set.false, ← c.is_user.ensures, c.if-is_user.true))

pub returns-then-actor-eq0 : goal.returns-then-actor-eq0
unfolding acted rule_of first_of
returns-then-actor-eq0 c s v h =
    let a = c.args in
    record-stays s (some v) (rule_of s v a.mode (Cri a.word)) h
    (rw (the-actor h, ← c.intercept_reserved_set.ensures, c.if-intercept_reserved_set.false, ← c.is_user.ensures, c.if-is_user.false, ← c.active_of-actor.ensures, eq-eqb _ _ c.if-actor-eq0.true))

pub returns : goal.returns
unfolding acted rule_of first_of
returns c s v h =
    let a = c.args in
    record-changes s (some v) (rule_of s v a.mode (Cri a.word)) h _ refl {x = 0}
    (rw (the-actor h, ← c.intercept_reserved_set.ensures, c.if-intercept_reserved_set.false, ← c.is_user.ensures, c.if-is_user.false, ← c.active_of-actor.ensures, ne_eqb _ _ c.if-actor-eq0.false))
    (rw (c.set_watch.ensures, c.with_intercepts.ensures, c.watch_of-watch.ensures, c.active_of-actor.ensures))
