-- `envp` meets its contract: the tests of its rule in their order, and then its effect. Assumes nothing.
use mathlib.Core.Path.{refl}
use mathlib.Core.Option.{some}
use borrow.Author.Tests.{lt-ltb, le-ltb, eq-eqb, ne_eqb}
use Rattle.model.specs.Answers.{first_of}
use Rattle.promise.proofs.Outcomes.{inside, record-stays, record-changes, the-maximum, the-enabled-on, the-enabled}
use Rattle.model.specs.Step.{acted, rule_of}
use Rattle.partition.specs.PartitionView.{partition_of}
use Rattle.model.specs.declared.event.Action.TheVariants.{Envp}
use Rattle.entry_events.proofs.envp.Goals as goal

pub returns-then-level-gt-HIGHEST_LEVEL : goal.returns-then-level-gt-HIGHEST_LEVEL
unfolding acted rule_of first_of partition_of
returns-then-level-gt-HIGHEST_LEVEL c s v pages w masks k h g =
    let a = c.args in
    record-stays s (some v) (rule_of s v a.mode (Envp w a.target.level a.initial.rip a.initial.rsp a.initial.cr0)) h
    (rw (inside s w.0 h.there, the-maximum s k.shaped, k.actor, the-enabled-on h, the-enabled s k.shaped k.keeps, g.anywhere, lt-ltb _ _ c.if-level-gt-HIGHEST_LEVEL.true))

pub returns-then-not-has_bit : goal.returns-then-not-has_bit
unfolding acted rule_of first_of partition_of
returns-then-not-has_bit c s v pages w masks k h g =
    let a = c.args in
    record-stays s (some v) (rule_of s v a.mode (Envp w a.target.level a.initial.rip a.initial.rsp a.initial.cr0)) h
    (rw (inside s w.0 h.there, the-maximum s k.shaped, k.actor, the-enabled-on h, the-enabled s k.shaped k.keeps, g.anywhere, le-ltb _ _ c.if-level-gt-HIGHEST_LEVEL.false, ← c.has_bit.ensures, c.if-not-has_bit.true))

pub returns-then-is_user : goal.returns-then-is_user
unfolding acted rule_of first_of partition_of
returns-then-is_user c s v pages w masks k h g =
    let a = c.args in
    record-stays s (some v) (rule_of s v a.mode (Envp w a.target.level a.initial.rip a.initial.rsp a.initial.cr0)) h
    (rw (inside s w.0 h.there, the-maximum s k.shaped, k.actor, the-enabled-on h, the-enabled s k.shaped k.keeps, g.anywhere, le-ltb _ _ c.if-level-gt-HIGHEST_LEVEL.false, ← c.has_bit.ensures, c.if-not-has_bit.false, ← c.is_user.ensures, c.if-is_user.true))

pub returns-then-level-eq0 : goal.returns-then-level-eq0
unfolding acted rule_of first_of partition_of
returns-then-level-eq0 c s v pages w masks k h g =
    let a = c.args in
    record-stays s (some v) (rule_of s v a.mode (Envp w a.target.level a.initial.rip a.initial.rsp a.initial.cr0)) h
    (rw (inside s w.0 h.there, the-maximum s k.shaped, k.actor, the-enabled-on h, the-enabled s k.shaped k.keeps, g.anywhere, le-ltb _ _ c.if-level-gt-HIGHEST_LEVEL.false, ← c.has_bit.ensures, c.if-not-has_bit.false, ← c.is_user.ensures, c.if-is_user.false, eq-eqb _ 0 c.if-level-eq0.true))

pub returns-then-shape-level : goal.returns-then-shape-level
unfolding acted rule_of first_of partition_of
returns-then-shape-level c s v pages w masks k h g =
    let a = c.args in
    record-stays s (some v) (rule_of s v a.mode (Envp w a.target.level a.initial.rip a.initial.rsp a.initial.cr0)) h
    (rw (inside s w.0 h.there, the-maximum s k.shaped, k.actor, the-enabled-on h, the-enabled s k.shaped k.keeps, g.anywhere, le-ltb _ _ c.if-level-gt-HIGHEST_LEVEL.false, ← c.has_bit.ensures, c.if-not-has_bit.false, ← c.is_user.ensures, c.if-is_user.false, ne_eqb _ 0 c.if-level-eq0.false, lt-ltb _ _ c.if-shape-level.true))

pub returns-then-anywhere-level : goal.returns-then-anywhere-level
unfolding acted rule_of first_of partition_of
returns-then-anywhere-level c s v pages w masks k h g =
    let a = c.args in
    record-stays s (some v) (rule_of s v a.mode (Envp w a.target.level a.initial.rip a.initial.rsp a.initial.cr0)) h
    (rw (inside s w.0 h.there, the-maximum s k.shaped, k.actor, the-enabled-on h, the-enabled s k.shaped k.keeps, g.anywhere, le-ltb _ _ c.if-level-gt-HIGHEST_LEVEL.false, ← c.has_bit.ensures, c.if-not-has_bit.false, ← c.is_user.ensures, c.if-is_user.false, ne_eqb _ 0 c.if-level-eq0.false, le-ltb _ _ c.if-shape-level.false, ← c.enabled_at-here.ensures, ← c.is_level.ensures, c.if-anywhere-level.true))

pub returns-then-anywhere-actor : goal.returns-then-anywhere-actor
unfolding acted rule_of first_of partition_of
returns-then-anywhere-actor c s v pages w masks k h g =
    let a = c.args in
    record-stays s (some v) (rule_of s v a.mode (Envp w a.target.level a.initial.rip a.initial.rsp a.initial.cr0)) h
    (rw (inside s w.0 h.there, the-maximum s k.shaped, k.actor, the-enabled-on h, the-enabled s k.shaped k.keeps, g.anywhere, le-ltb _ _ c.if-level-gt-HIGHEST_LEVEL.false, ← c.has_bit.ensures, c.if-not-has_bit.false, ← c.is_user.ensures, c.if-is_user.false, ne_eqb _ 0 c.if-level-eq0.false, le-ltb _ _ c.if-shape-level.false, ← c.enabled_at-here.ensures, ← c.is_level.ensures, c.if-anywhere-level.false, c.if-anywhere-actor.true))

pub returns-then-here : goal.returns-then-here
unfolding acted rule_of first_of partition_of
returns-then-here c s v pages w masks k h g =
    let a = c.args in
    record-stays s (some v) (rule_of s v a.mode (Envp w a.target.level a.initial.rip a.initial.rsp a.initial.cr0)) h
    (rw (inside s w.0 h.there, the-maximum s k.shaped, k.actor, the-enabled-on h, the-enabled s k.shaped k.keeps, g.anywhere, le-ltb _ _ c.if-level-gt-HIGHEST_LEVEL.false, ← c.has_bit.ensures, c.if-not-has_bit.false, ← c.is_user.ensures, c.if-is_user.false, ne_eqb _ 0 c.if-level-eq0.false, le-ltb _ _ c.if-shape-level.false, ← c.enabled_at-here.ensures, ← c.is_level.ensures, c.if-anywhere-level.false, c.if-anywhere-actor.false, c.if-here.true))

pub returns-then-not-enabled_for : goal.returns-then-not-enabled_for
unfolding acted rule_of first_of partition_of
returns-then-not-enabled_for c s v pages w masks k h g =
    let a = c.args in
    record-stays s (some v) (rule_of s v a.mode (Envp w a.target.level a.initial.rip a.initial.rsp a.initial.cr0)) h
    (rw (inside s w.0 h.there, the-maximum s k.shaped, k.actor, the-enabled-on h, the-enabled s k.shaped k.keeps, g.anywhere, le-ltb _ _ c.if-level-gt-HIGHEST_LEVEL.false, ← c.has_bit.ensures, c.if-not-has_bit.false, ← c.is_user.ensures, c.if-is_user.false, ne_eqb _ 0 c.if-level-eq0.false, le-ltb _ _ c.if-shape-level.false, ← c.enabled_at-here.ensures, ← c.is_level.ensures, c.if-anywhere-level.false, c.if-anywhere-actor.false, c.if-here.false, ← c.enabled_for.ensures, c.if-not-enabled_for.true))

pub returns : goal.returns
unfolding acted rule_of first_of partition_of
returns c s v pages w masks k h g =
    let a = c.args in
    record-changes s (some v) (rule_of s v a.mode (Envp w a.target.level a.initial.rip a.initial.rsp a.initial.cr0)) h _ refl {x = 0}
    (rw (inside s w.0 h.there, the-maximum s k.shaped, k.actor, the-enabled-on h, the-enabled s k.shaped k.keeps, g.anywhere, le-ltb _ _ c.if-level-gt-HIGHEST_LEVEL.false, ← c.has_bit.ensures, c.if-not-has_bit.false, ← c.is_user.ensures, c.if-is_user.false, ne_eqb _ 0 c.if-level-eq0.false, le-ltb _ _ c.if-shape-level.false, ← c.enabled_at-here.ensures, ← c.is_level.ensures, c.if-anywhere-level.false, c.if-anywhere-actor.false, c.if-here.false, ← c.enabled_for.ensures, c.if-not-enabled_for.false)) c.start.ensures
