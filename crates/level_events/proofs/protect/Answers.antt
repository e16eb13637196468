-- `protect` meets its contract: the tests of its rule in their order, and then its effect. Assumes nothing.
use mathlib.Core.Path.{refl}
use mathlib.Core.Option.{some}
use borrow.Author.Tests.{le-leb, lt-leb, eq-eqb, ne_eqb}
use Rattle.model.specs.Answers.{first_of}
use Rattle.promise.proofs.Outcomes.{partition-stays, partition-changes, the-mbec, the-protection}
use Rattle.model.specs.Step.{acted, rule_of}
use Rattle.partition.specs.PartitionView.{partition_of}
use Rattle.model.specs.declared.event.Action.TheVariants.{Protect}
use Rattle.model.specs.Updates.{set_mask}
use Rattle.level_events.proofs.protect.Goals as goal

pub returns : goal.returns
unfolding acted rule_of first_of partition_of
returns c s v h =
    let a = c.args in partition-changes s (some v) (rule_of s v a.mode (Protect a.page a.mask)) h.shaped h.keeps _ refl {n = 0} (rw (h.paged, h.actor, the-protection s h.shaped h.keeps, the-mbec s h.shaped h.keeps, lt-leb _ _ c.if-setup-page.false, ← c.valid_mask.ensures, c.if-not-valid_mask.false, ← c.is_user.ensures, c.if-is_user.false, ne_eqb _ 0 c.if-actor-eq0.false, ← c.protects_at.ensures, c.if-not-protects_at.false, ← c.kernel_only.ensures, ← c.mbec_for.ensures, c.if-kernel_only-mbec_for.false)) (unfold set_mask in rw (h.actor, c.set_mask.ensures))

pub returns-then-setup-page : goal.returns-then-setup-page
returns-then-setup-page c s v h = unfold acted rule_of first_of partition_of in let a = c.args in partition-stays s (some v) (rule_of s v a.mode (Protect a.page a.mask)) h.shaped h.keeps (rw (h.paged, h.actor, the-protection s h.shaped h.keeps, the-mbec s h.shaped h.keeps, le-leb _ _ c.if-setup-page.true))

pub returns-then-not-valid_mask : goal.returns-then-not-valid_mask
returns-then-not-valid_mask c s v h = unfold acted rule_of first_of partition_of in let a = c.args in partition-stays s (some v) (rule_of s v a.mode (Protect a.page a.mask)) h.shaped h.keeps (rw (h.paged, h.actor, the-protection s h.shaped h.keeps, the-mbec s h.shaped h.keeps, lt-leb _ _ c.if-setup-page.false, ← c.valid_mask.ensures, c.if-not-valid_mask.true))

pub returns-then-is_user : goal.returns-then-is_user
returns-then-is_user c s v h = unfold acted rule_of first_of partition_of in let a = c.args in partition-stays s (some v) (rule_of s v a.mode (Protect a.page a.mask)) h.shaped h.keeps (rw (h.paged, h.actor, the-protection s h.shaped h.keeps, the-mbec s h.shaped h.keeps, lt-leb _ _ c.if-setup-page.false, ← c.valid_mask.ensures, c.if-not-valid_mask.false, ← c.is_user.ensures, c.if-is_user.true))

pub returns-then-actor-eq0 : goal.returns-then-actor-eq0
returns-then-actor-eq0 c s v h = unfold acted rule_of first_of partition_of in let a = c.args in partition-stays s (some v) (rule_of s v a.mode (Protect a.page a.mask)) h.shaped h.keeps (rw (h.paged, h.actor, the-protection s h.shaped h.keeps, the-mbec s h.shaped h.keeps, lt-leb _ _ c.if-setup-page.false, ← c.valid_mask.ensures, c.if-not-valid_mask.false, ← c.is_user.ensures, c.if-is_user.false, eq-eqb _ 0 c.if-actor-eq0.true))

pub returns-then-not-protects_at : goal.returns-then-not-protects_at
returns-then-not-protects_at c s v h = unfold acted rule_of first_of partition_of in let a = c.args in partition-stays s (some v) (rule_of s v a.mode (Protect a.page a.mask)) h.shaped h.keeps (rw (h.paged, h.actor, the-protection s h.shaped h.keeps, the-mbec s h.shaped h.keeps, lt-leb _ _ c.if-setup-page.false, ← c.valid_mask.ensures, c.if-not-valid_mask.false, ← c.is_user.ensures, c.if-is_user.false, ne_eqb _ 0 c.if-actor-eq0.false, ← c.protects_at.ensures, c.if-not-protects_at.true))

pub returns-then-kernel_only-mbec_for : goal.returns-then-kernel_only-mbec_for
returns-then-kernel_only-mbec_for c s v h = unfold acted rule_of first_of partition_of in let a = c.args in partition-stays s (some v) (rule_of s v a.mode (Protect a.page a.mask)) h.shaped h.keeps (rw (h.paged, h.actor, the-protection s h.shaped h.keeps, the-mbec s h.shaped h.keeps, lt-leb _ _ c.if-setup-page.false, ← c.valid_mask.ensures, c.if-not-valid_mask.false, ← c.is_user.ensures, c.if-is_user.false, ne_eqb _ 0 c.if-actor-eq0.false, ← c.protects_at.ensures, c.if-not-protects_at.false, ← c.kernel_only.ensures, ← c.mbec_for.ensures, c.if-kernel_only-mbec_for.true))
