-- `enpart` meets its contract: the tests of its rule in their order, and then its effect. Assumes nothing.
use mathlib.Core.Path.{refl}
use mathlib.Core.Option.{some}
use borrow.Author.Tests.{lt-ltb, le-ltb, le-leb, lt-leb, eq-eqb, ne_eqb}
use Rattle.model.specs.Answers.{first_of}
use Rattle.promise.proofs.Outcomes.{partition-stays, partition-changes, the-maximum, the-enabled}
use Rattle.model.specs.Step.{acted, rule_of}
use Rattle.partition.specs.PartitionView.{partition_of}
use Rattle.model.specs.declared.event.Action.TheVariants.{Enpart}
use Rattle.level_events.proofs.enpart.Goals as goal

pub returns : goal.returns
unfolding acted rule_of first_of partition_of
returns c s v pages masks h =
    let a = c.args in partition-changes s (some v) (rule_of s v a.mode (Enpart a.target a.mbec)) h.shaped h.keeps _ refl {n = 0} (rw (the-maximum s h.shaped, h.actor, the-enabled s h.shaped h.keeps, le-ltb _ _ c.if-target-gt-HIGHEST_LEVEL.false, le-ltb _ _ c.if-mbec-gt1.false, ← c.is_user.ensures, c.if-is_user.false, ne_eqb _ 0 c.if-target-eq0.false, le-ltb _ _ c.if-shape-target.false, lt-leb _ _ c.if-target-actor.false, ← c.enabled_for.ensures, c.if-enabled_for.false)) (c.enable_level.ensures masks)

pub returns-then-target-gt-HIGHEST_LEVEL : goal.returns-then-target-gt-HIGHEST_LEVEL
returns-then-target-gt-HIGHEST_LEVEL c s v pages masks h = unfold acted rule_of first_of partition_of in let a = c.args in partition-stays s (some v) (rule_of s v a.mode (Enpart a.target a.mbec)) h.shaped h.keeps (rw (the-maximum s h.shaped, h.actor, the-enabled s h.shaped h.keeps, lt-ltb _ _ c.if-target-gt-HIGHEST_LEVEL.true))

pub returns-then-mbec-gt1 : goal.returns-then-mbec-gt1
returns-then-mbec-gt1 c s v pages masks h = unfold acted rule_of first_of partition_of in let a = c.args in partition-stays s (some v) (rule_of s v a.mode (Enpart a.target a.mbec)) h.shaped h.keeps (rw (the-maximum s h.shaped, h.actor, the-enabled s h.shaped h.keeps, le-ltb _ _ c.if-target-gt-HIGHEST_LEVEL.false, lt-ltb _ _ c.if-mbec-gt1.true))

pub returns-then-is_user : goal.returns-then-is_user
returns-then-is_user c s v pages masks h = unfold acted rule_of first_of partition_of in let a = c.args in partition-stays s (some v) (rule_of s v a.mode (Enpart a.target a.mbec)) h.shaped h.keeps (rw (the-maximum s h.shaped, h.actor, the-enabled s h.shaped h.keeps, le-ltb _ _ c.if-target-gt-HIGHEST_LEVEL.false, le-ltb _ _ c.if-mbec-gt1.false, ← c.is_user.ensures, c.if-is_user.true))

pub returns-then-target-eq0 : goal.returns-then-target-eq0
returns-then-target-eq0 c s v pages masks h = unfold acted rule_of first_of partition_of in let a = c.args in partition-stays s (some v) (rule_of s v a.mode (Enpart a.target a.mbec)) h.shaped h.keeps (rw (the-maximum s h.shaped, h.actor, the-enabled s h.shaped h.keeps, le-ltb _ _ c.if-target-gt-HIGHEST_LEVEL.false, le-ltb _ _ c.if-mbec-gt1.false, ← c.is_user.ensures, c.if-is_user.false, eq-eqb _ 0 c.if-target-eq0.true))

pub returns-then-shape-target : goal.returns-then-shape-target
returns-then-shape-target c s v pages masks h = unfold acted rule_of first_of partition_of in let a = c.args in partition-stays s (some v) (rule_of s v a.mode (Enpart a.target a.mbec)) h.shaped h.keeps (rw (the-maximum s h.shaped, h.actor, the-enabled s h.shaped h.keeps, le-ltb _ _ c.if-target-gt-HIGHEST_LEVEL.false, le-ltb _ _ c.if-mbec-gt1.false, ← c.is_user.ensures, c.if-is_user.false, ne_eqb _ 0 c.if-target-eq0.false, lt-ltb _ _ c.if-shape-target.true))

pub returns-then-target-actor : goal.returns-then-target-actor
returns-then-target-actor c s v pages masks h = unfold acted rule_of first_of partition_of in let a = c.args in partition-stays s (some v) (rule_of s v a.mode (Enpart a.target a.mbec)) h.shaped h.keeps (rw (the-maximum s h.shaped, h.actor, the-enabled s h.shaped h.keeps, le-ltb _ _ c.if-target-gt-HIGHEST_LEVEL.false, le-ltb _ _ c.if-mbec-gt1.false, ← c.is_user.ensures, c.if-is_user.false, ne_eqb _ 0 c.if-target-eq0.false, le-ltb _ _ c.if-shape-target.false, le-leb _ _ c.if-target-actor.true))

pub returns-then-enabled_for : goal.returns-then-enabled_for
returns-then-enabled_for c s v pages masks h = unfold acted rule_of first_of partition_of in let a = c.args in partition-stays s (some v) (rule_of s v a.mode (Enpart a.target a.mbec)) h.shaped h.keeps (rw (the-maximum s h.shaped, h.actor, the-enabled s h.shaped h.keeps, le-ltb _ _ c.if-target-gt-HIGHEST_LEVEL.false, le-ltb _ _ c.if-mbec-gt1.false, ← c.is_user.ensures, c.if-is_user.false, ne_eqb _ 0 c.if-target-eq0.false, le-ltb _ _ c.if-shape-target.false, lt-leb _ _ c.if-target-actor.false, ← c.enabled_for.ensures, c.if-enabled_for.true))
