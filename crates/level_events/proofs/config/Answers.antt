-- `config` meets its contract: the tests of its rule in their order, and then its effect. Assumes nothing.
use mathlib.Core.Path.{refl}
use mathlib.Core.Option.{some}
use borrow.Author.Tests.{lt-ltb, le-ltb, eq-eqb, ne_eqb}
use Rattle.model.specs.Answers.{first_of}
use Rattle.promise.proofs.Outcomes.{partition-stays, partition-changes, the-maximum, the-enabled, the-mbec, the-config, the-protection}
use Rattle.model.specs.Step.{acted, rule_of}
use Rattle.partition.specs.PartitionView.{partition_of}
use Rattle.model.specs.declared.event.Action.TheVariants.{Config}
use Rattle.level_events.proofs.ConfiguredMasks.{configured-by}
use Rattle.level_events.proofs.config.Goals as goal

pub returns : goal.returns
unfolding acted rule_of first_of partition_of
returns c s v h =
    let a = c.args in partition-changes s (some v) (rule_of s v a.mode (Config a.target a.word)) h.shaped h.keeps _ refl {n = 0} (rw (the-maximum s h.shaped, h.actor, the-enabled s h.shaped h.keeps, the-protection s h.shaped h.keeps, the-config s h.shaped h.keeps, the-mbec s h.shaped h.keeps, le-ltb _ _ c.if-target-gt-HIGHEST_LEVEL.false, ← c.reserved_set.ensures, c.if-reserved_set.false, ← c.default_mask-mask.ensures, ← c.valid_mask.ensures, c.if-not-valid_mask.false, ← c.is_user.ensures, c.if-is_user.false, ne_eqb _ 0 c.if-target-eq0.false, le-ltb _ _ c.if-shape-target.false, le-ltb _ _ c.if-actor-target.false, ← c.enabled_for.ensures, c.if-not-enabled_for.false, ← c.protects_at-on.ensures, ← c.turns_on.ensures, c.if-on-turns_on.false, ← c.config_at.ensures, ← c.default_mask-old.ensures, c.if-on-mask.false, ← c.kernel_only.ensures, ← c.mbec_for.ensures, c.if-kernel_only-mbec_for.false)) (rw h.paged (configured-by a.setup.shape a.setup.pages a.target.0 a.word a.levels.now a.masks.now _ c.config_masks.ensures (c.set_config.ensures _)))

pub returns-then-target-gt-HIGHEST_LEVEL : goal.returns-then-target-gt-HIGHEST_LEVEL
returns-then-target-gt-HIGHEST_LEVEL c s v h = unfold acted rule_of first_of partition_of in let a = c.args in partition-stays s (some v) (rule_of s v a.mode (Config a.target a.word)) h.shaped h.keeps (rw (the-maximum s h.shaped, h.actor, the-enabled s h.shaped h.keeps, the-protection s h.shaped h.keeps, the-config s h.shaped h.keeps, the-mbec s h.shaped h.keeps, lt-ltb _ _ c.if-target-gt-HIGHEST_LEVEL.true))

pub returns-then-reserved_set : goal.returns-then-reserved_set
returns-then-reserved_set c s v h = unfold acted rule_of first_of partition_of in let a = c.args in partition-stays s (some v) (rule_of s v a.mode (Config a.target a.word)) h.shaped h.keeps (rw (the-maximum s h.shaped, h.actor, the-enabled s h.shaped h.keeps, the-protection s h.shaped h.keeps, the-config s h.shaped h.keeps, the-mbec s h.shaped h.keeps, le-ltb _ _ c.if-target-gt-HIGHEST_LEVEL.false, ← c.reserved_set.ensures, c.if-reserved_set.true))

pub returns-then-not-valid_mask : goal.returns-then-not-valid_mask
returns-then-not-valid_mask c s v h = unfold acted rule_of first_of partition_of in let a = c.args in partition-stays s (some v) (rule_of s v a.mode (Config a.target a.word)) h.shaped h.keeps (rw (the-maximum s h.shaped, h.actor, the-enabled s h.shaped h.keeps, the-protection s h.shaped h.keeps, the-config s h.shaped h.keeps, the-mbec s h.shaped h.keeps, le-ltb _ _ c.if-target-gt-HIGHEST_LEVEL.false, ← c.reserved_set.ensures, c.if-reserved_set.false, ← c.default_mask-mask.ensures, ← c.valid_mask.ensures, c.if-not-valid_mask.true))

pub returns-then-is_user : goal.returns-then-is_user
returns-then-is_user c s v h = unfold acted rule_of first_of partition_of in let a = c.args in partition-stays s (some v) (rule_of s v a.mode (Config a.target a.word)) h.shaped h.keeps (rw (the-maximum s h.shaped, h.actor, the-enabled s h.shaped h.keeps, the-protection s h.shaped h.keeps, the-config s h.shaped h.keeps, the-mbec s h.shaped h.keeps, le-ltb _ _ c.if-target-gt-HIGHEST_LEVEL.false, ← c.reserved_set.ensures, c.if-reserved_set.false, ← c.default_mask-mask.ensures, ← c.valid_mask.ensures, c.if-not-valid_mask.false, ← c.is_user.ensures, c.if-is_user.true))

pub returns-then-target-eq0 : goal.returns-then-target-eq0
returns-then-target-eq0 c s v h = unfold acted rule_of first_of partition_of in let a = c.args in partition-stays s (some v) (rule_of s v a.mode (Config a.target a.word)) h.shaped h.keeps (rw (the-maximum s h.shaped, h.actor, the-enabled s h.shaped h.keeps, the-protection s h.shaped h.keeps, the-config s h.shaped h.keeps, the-mbec s h.shaped h.keeps, le-ltb _ _ c.if-target-gt-HIGHEST_LEVEL.false, ← c.reserved_set.ensures, c.if-reserved_set.false, ← c.default_mask-mask.ensures, ← c.valid_mask.ensures, c.if-not-valid_mask.false, ← c.is_user.ensures, c.if-is_user.false, eq-eqb _ 0 c.if-target-eq0.true))

pub returns-then-shape-target : goal.returns-then-shape-target
returns-then-shape-target c s v h = unfold acted rule_of first_of partition_of in let a = c.args in partition-stays s (some v) (rule_of s v a.mode (Config a.target a.word)) h.shaped h.keeps (rw (the-maximum s h.shaped, h.actor, the-enabled s h.shaped h.keeps, the-protection s h.shaped h.keeps, the-config s h.shaped h.keeps, the-mbec s h.shaped h.keeps, le-ltb _ _ c.if-target-gt-HIGHEST_LEVEL.false, ← c.reserved_set.ensures, c.if-reserved_set.false, ← c.default_mask-mask.ensures, ← c.valid_mask.ensures, c.if-not-valid_mask.false, ← c.is_user.ensures, c.if-is_user.false, ne_eqb _ 0 c.if-target-eq0.false, lt-ltb _ _ c.if-shape-target.true))

pub returns-then-actor-target : goal.returns-then-actor-target
returns-then-actor-target c s v h = unfold acted rule_of first_of partition_of in let a = c.args in partition-stays s (some v) (rule_of s v a.mode (Config a.target a.word)) h.shaped h.keeps (rw (the-maximum s h.shaped, h.actor, the-enabled s h.shaped h.keeps, the-protection s h.shaped h.keeps, the-config s h.shaped h.keeps, the-mbec s h.shaped h.keeps, le-ltb _ _ c.if-target-gt-HIGHEST_LEVEL.false, ← c.reserved_set.ensures, c.if-reserved_set.false, ← c.default_mask-mask.ensures, ← c.valid_mask.ensures, c.if-not-valid_mask.false, ← c.is_user.ensures, c.if-is_user.false, ne_eqb _ 0 c.if-target-eq0.false, le-ltb _ _ c.if-shape-target.false, lt-ltb _ _ c.if-actor-target.true))

pub returns-then-not-enabled_for : goal.returns-then-not-enabled_for
returns-then-not-enabled_for c s v h = unfold acted rule_of first_of partition_of in let a = c.args in partition-stays s (some v) (rule_of s v a.mode (Config a.target a.word)) h.shaped h.keeps (rw (the-maximum s h.shaped, h.actor, the-enabled s h.shaped h.keeps, the-protection s h.shaped h.keeps, the-config s h.shaped h.keeps, the-mbec s h.shaped h.keeps, le-ltb _ _ c.if-target-gt-HIGHEST_LEVEL.false, ← c.reserved_set.ensures, c.if-reserved_set.false, ← c.default_mask-mask.ensures, ← c.valid_mask.ensures, c.if-not-valid_mask.false, ← c.is_user.ensures, c.if-is_user.false, ne_eqb _ 0 c.if-target-eq0.false, le-ltb _ _ c.if-shape-target.false, le-ltb _ _ c.if-actor-target.false, ← c.enabled_for.ensures, c.if-not-enabled_for.true))

pub returns-then-on-turns_on : goal.returns-then-on-turns_on
returns-then-on-turns_on c s v h = unfold acted rule_of first_of partition_of in let a = c.args in partition-stays s (some v) (rule_of s v a.mode (Config a.target a.word)) h.shaped h.keeps (rw (the-maximum s h.shaped, h.actor, the-enabled s h.shaped h.keeps, the-protection s h.shaped h.keeps, the-config s h.shaped h.keeps, the-mbec s h.shaped h.keeps, le-ltb _ _ c.if-target-gt-HIGHEST_LEVEL.false, ← c.reserved_set.ensures, c.if-reserved_set.false, ← c.default_mask-mask.ensures, ← c.valid_mask.ensures, c.if-not-valid_mask.false, ← c.is_user.ensures, c.if-is_user.false, ne_eqb _ 0 c.if-target-eq0.false, le-ltb _ _ c.if-shape-target.false, le-ltb _ _ c.if-actor-target.false, ← c.enabled_for.ensures, c.if-not-enabled_for.false, ← c.protects_at-on.ensures, ← c.turns_on.ensures, c.if-on-turns_on.true))

pub returns-then-on-mask : goal.returns-then-on-mask
returns-then-on-mask c s v h = unfold acted rule_of first_of partition_of in let a = c.args in partition-stays s (some v) (rule_of s v a.mode (Config a.target a.word)) h.shaped h.keeps (rw (the-maximum s h.shaped, h.actor, the-enabled s h.shaped h.keeps, the-protection s h.shaped h.keeps, the-config s h.shaped h.keeps, the-mbec s h.shaped h.keeps, le-ltb _ _ c.if-target-gt-HIGHEST_LEVEL.false, ← c.reserved_set.ensures, c.if-reserved_set.false, ← c.default_mask-mask.ensures, ← c.valid_mask.ensures, c.if-not-valid_mask.false, ← c.is_user.ensures, c.if-is_user.false, ne_eqb _ 0 c.if-target-eq0.false, le-ltb _ _ c.if-shape-target.false, le-ltb _ _ c.if-actor-target.false, ← c.enabled_for.ensures, c.if-not-enabled_for.false, ← c.protects_at-on.ensures, ← c.turns_on.ensures, c.if-on-turns_on.false, ← c.config_at.ensures, ← c.default_mask-old.ensures, c.if-on-mask.true))

pub returns-then-kernel_only-mbec_for : goal.returns-then-kernel_only-mbec_for
returns-then-kernel_only-mbec_for c s v h = unfold acted rule_of first_of partition_of in let a = c.args in partition-stays s (some v) (rule_of s v a.mode (Config a.target a.word)) h.shaped h.keeps (rw (the-maximum s h.shaped, h.actor, the-enabled s h.shaped h.keeps, the-protection s h.shaped h.keeps, the-config s h.shaped h.keeps, the-mbec s h.shaped h.keeps, le-ltb _ _ c.if-target-gt-HIGHEST_LEVEL.false, ← c.reserved_set.ensures, c.if-reserved_set.false, ← c.default_mask-mask.ensures, ← c.valid_mask.ensures, c.if-not-valid_mask.false, ← c.is_user.ensures, c.if-is_user.false, ne_eqb _ 0 c.if-target-eq0.false, le-ltb _ _ c.if-shape-target.false, le-ltb _ _ c.if-actor-target.false, ← c.enabled_for.ensures, c.if-not-enabled_for.false, ← c.protects_at-on.ensures, ← c.turns_on.ensures, c.if-on-turns_on.false, ← c.config_at.ensures, ← c.default_mask-old.ensures, c.if-on-mask.false, ← c.kernel_only.ensures, ← c.mbec_for.ensures, c.if-kernel_only-mbec_for.true))
