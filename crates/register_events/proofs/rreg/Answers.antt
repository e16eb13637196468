-- `rreg` meets its contract: the tests of its rule in their order, and then its effect. Assumes nothing.
use mathlib.Core.Path.{refl, sym, ◌∙◌}
use mathlib.Core.Option.{some}
use borrow.Author.Tests.{lt-ltb, le-ltb}
use Rattle.model.proofs.Searches.{number-found, number-past}
use Rattle.model.specs.Answers.{first_of}
use Rattle.promise.proofs.Outcomes.{record-stays, record-read, record-entered, the-maximum, the-actor, the-enabled-on}
use Rattle.model.specs.Step.{acted, rule_of}
use Rattle.model.specs.declared.event.Action.TheVariants.{Rreg}
use Rattle.register_events.proofs.rreg.Goals as goal

pub returns-then-target-gt-HIGHEST_LEVEL : goal.returns-then-target-gt-HIGHEST_LEVEL
unfolding acted rule_of first_of
returns-then-target-gt-HIGHEST_LEVEL c s v h =
    let a = c.args in
    record-stays s (some v) (rule_of s v a.mode (Rreg a.target a.register)) h (rw (the-maximum s h.shaped, the-actor h, the-enabled-on h, h.shaped, h.holds, lt-ltb _ _ c.if-target-gt-HIGHEST_LEVEL.true))

pub returns-then-register-gt-LAST_REGISTER : goal.returns-then-register-gt-LAST_REGISTER
unfolding acted rule_of first_of
returns-then-register-gt-LAST_REGISTER c s v h =
    let a = c.args in
    record-stays s (some v) (rule_of s v a.mode (Rreg a.target a.register)) h (rw (the-maximum s h.shaped, the-actor h, the-enabled-on h, h.shaped, h.holds, le-ltb _ _ c.if-target-gt-HIGHEST_LEVEL.false, lt-ltb _ _ c.if-register-gt-LAST_REGISTER.true))

pub returns-then-is_user : goal.returns-then-is_user
unfolding acted rule_of first_of
returns-then-is_user c s v h =
    let a = c.args in
    record-stays s (some v) (rule_of s v a.mode (Rreg a.target a.register)) h (rw (the-maximum s h.shaped, the-actor h, the-enabled-on h, h.shaped, h.holds, le-ltb _ _ c.if-target-gt-HIGHEST_LEVEL.false, le-ltb _ _ c.if-register-gt-LAST_REGISTER.false, ← c.is_user.ensures, c.if-is_user.true))

pub returns-then-shape-target : goal.returns-then-shape-target
unfolding acted rule_of first_of
returns-then-shape-target c s v h =
    let a = c.args in
    record-stays s (some v) (rule_of s v a.mode (Rreg a.target a.register)) h (rw (the-maximum s h.shaped, the-actor h, the-enabled-on h, h.shaped, h.holds, le-ltb _ _ c.if-target-gt-HIGHEST_LEVEL.false, le-ltb _ _ c.if-register-gt-LAST_REGISTER.false, ← c.is_user.ensures, c.if-is_user.false, lt-ltb _ _ c.if-shape-target.true))

pub returns-then-actor-target : goal.returns-then-actor-target
unfolding acted rule_of first_of
returns-then-actor-target c s v h =
    let a = c.args in
    record-stays s (some v) (rule_of s v a.mode (Rreg a.target a.register)) h (rw (the-maximum s h.shaped, the-actor h, the-enabled-on h, h.shaped, h.holds, le-ltb _ _ c.if-target-gt-HIGHEST_LEVEL.false, le-ltb _ _ c.if-register-gt-LAST_REGISTER.false, ← c.is_user.ensures, c.if-is_user.false, le-ltb _ _ c.if-shape-target.false, ← c.active_of-actor.ensures, lt-ltb _ _ c.if-actor-target.true))

pub returns-then-not-enabled_at : goal.returns-then-not-enabled_at
unfolding acted rule_of first_of
returns-then-not-enabled_at c s v h =
    let a = c.args in
    record-stays s (some v) (rule_of s v a.mode (Rreg a.target a.register)) h (rw (the-maximum s h.shaped, the-actor h, the-enabled-on h, h.shaped, h.holds, le-ltb _ _ c.if-target-gt-HIGHEST_LEVEL.false, le-ltb _ _ c.if-register-gt-LAST_REGISTER.false, ← c.is_user.ensures, c.if-is_user.false, le-ltb _ _ c.if-shape-target.false, ← c.active_of-actor.ensures, le-ltb _ _ c.if-actor-target.false, ← c.enabled_at.ensures, c.if-not-enabled_at.true))

pub returns-in-Some : goal.returns-in-Some
unfolding acted rule_of first_of
returns-in-Some c s v h =
    let found = number-found _ (sym c.read_watcher.ensures ∙ c.in-Some.is) in
    let a = c.args in
    record-entered s (rule_of s v a.mode (Rreg a.target a.register)) h {l = c.in-Some.receiver}
    (rw (the-maximum s h.shaped, the-actor h, the-enabled-on h, h.shaped, h.holds, le-ltb _ _ c.if-target-gt-HIGHEST_LEVEL.false, le-ltb _ _ c.if-register-gt-LAST_REGISTER.false, ← c.is_user.ensures, c.if-is_user.false, le-ltb _ _ c.if-shape-target.false, ← c.active_of-actor.ensures, le-ltb _ _ c.if-actor-target.false, ← c.enabled_at.ensures, c.if-not-enabled_at.false, found.0, found.1))
    c.intercept.ensures.entered ∙ rw c.intercept.ensures.answer

pub returns : goal.returns
unfolding acted rule_of first_of
returns c s v h =
    let a = c.args in
    record-read s (some v) (rule_of s v a.mode (Rreg a.target a.register)) h refl {x = c.register_of.result}
    (rw (the-maximum s h.shaped, the-actor h, the-enabled-on h, h.shaped, h.holds, le-ltb _ _ c.if-target-gt-HIGHEST_LEVEL.false, le-ltb _ _ c.if-register-gt-LAST_REGISTER.false, ← c.is_user.ensures, c.if-is_user.false, le-ltb _ _ c.if-shape-target.false, ← c.active_of-actor.ensures, le-ltb _ _ c.if-actor-target.false, ← c.enabled_at.ensures, c.if-not-enabled_at.false, number-past _ (sym c.read_watcher.ensures ∙ c.in_default.is), ← c.register_of.ensures))
