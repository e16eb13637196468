-- `secure` meets its contract: the tests of its rule in their order, and then its effect. Assumes nothing.
use mathlib.Core.Path.{refl, ap}
use mathlib.Core.Option.{some}
use borrow.Author.Tests.{lt-ltb, le-ltb, le-leb, lt-leb}
use Rattle.model.specs.Answers.{first_of}
use Rattle.promise.proofs.Outcomes.{record-stays, record-changes, the-maximum, the-actor, the-enabled-on, the-mbec}
use Rattle.model.specs.Step.{acted, rule_of}
use Rattle.partition.specs.PartitionView.{partition_of}
use Rattle.model.specs.declared.event.Action.TheVariants.{Secure}
use Rattle.register_events.proofs.secure.Goals as goal

pub returns : goal.returns
unfolding acted rule_of first_of partition_of
returns c s v masks h keeps =
    let a = c.args in record-changes s (some v) (rule_of s v a.mode (Secure a.target a.word)) h _ refl {x = 0} (rw (the-maximum s h.shaped, the-actor h, the-enabled-on h, the-mbec s h.shaped keeps, le-ltb _ _ c.if-target-gt-HIGHEST_LEVEL.false, ← c.secure_reserved_set.ensures, c.if-secure_reserved_set.false, ← c.is_user.ensures, c.if-is_user.false, le-ltb _ _ c.if-shape-target.false, ← c.active_of-actor.ensures, lt-leb _ _ c.if-actor-target.false, ← c.enabled_at.ensures, c.if-not-enabled_at.false, ← ap (λ x. x.mbec_enabled) c.unpack-config.ensures, ← c.mbec_for.ensures, c.if-config-mbec_for.false)) (rw (c.set_secure.ensures, c.active_of-actor.ensures))

pub returns-then-target-gt-HIGHEST_LEVEL : goal.returns-then-target-gt-HIGHEST_LEVEL
returns-then-target-gt-HIGHEST_LEVEL c s v masks h keeps = unfold acted rule_of first_of partition_of in let a = c.args in record-stays s (some v) (rule_of s v a.mode (Secure a.target a.word)) h (rw (the-maximum s h.shaped, the-actor h, the-enabled-on h, the-mbec s h.shaped keeps, lt-ltb _ _ c.if-target-gt-HIGHEST_LEVEL.true))

pub returns-then-secure_reserved_set : goal.returns-then-secure_reserved_set
returns-then-secure_reserved_set c s v masks h keeps = unfold acted rule_of first_of partition_of in let a = c.args in record-stays s (some v) (rule_of s v a.mode (Secure a.target a.word)) h (rw (the-maximum s h.shaped, the-actor h, the-enabled-on h, the-mbec s h.shaped keeps, le-ltb _ _ c.if-target-gt-HIGHEST_LEVEL.false, ← c.secure_reserved_set.ensures, c.if-secure_reserved_set.true))

pub returns-then-is_user : goal.returns-then-is_user
returns-then-is_user c s v masks h keeps = unfold acted rule_of first_of partition_of in let a = c.args in record-stays s (some v) (rule_of s v a.mode (Secure a.target a.word)) h (rw (the-maximum s h.shaped, the-actor h, the-enabled-on h, the-mbec s h.shaped keeps, le-ltb _ _ c.if-target-gt-HIGHEST_LEVEL.false, ← c.secure_reserved_set.ensures, c.if-secure_reserved_set.false, ← c.is_user.ensures, c.if-is_user.true))

pub returns-then-shape-target : goal.returns-then-shape-target
returns-then-shape-target c s v masks h keeps = unfold acted rule_of first_of partition_of in let a = c.args in record-stays s (some v) (rule_of s v a.mode (Secure a.target a.word)) h (rw (the-maximum s h.shaped, the-actor h, the-enabled-on h, the-mbec s h.shaped keeps, le-ltb _ _ c.if-target-gt-HIGHEST_LEVEL.false, ← c.secure_reserved_set.ensures, c.if-secure_reserved_set.false, ← c.is_user.ensures, c.if-is_user.false, lt-ltb _ _ c.if-shape-target.true))

pub returns-then-actor-target : goal.returns-then-actor-target
returns-then-actor-target c s v masks h keeps = unfold acted rule_of first_of partition_of in let a = c.args in record-stays s (some v) (rule_of s v a.mode (Secure a.target a.word)) h (rw (the-maximum s h.shaped, the-actor h, the-enabled-on h, the-mbec s h.shaped keeps, le-ltb _ _ c.if-target-gt-HIGHEST_LEVEL.false, ← c.secure_reserved_set.ensures, c.if-secure_reserved_set.false, ← c.is_user.ensures, c.if-is_user.false, le-ltb _ _ c.if-shape-target.false, ← c.active_of-actor.ensures, le-leb _ _ c.if-actor-target.true))

pub returns-then-not-enabled_at : goal.returns-then-not-enabled_at
returns-then-not-enabled_at c s v masks h keeps = unfold acted rule_of first_of partition_of in let a = c.args in record-stays s (some v) (rule_of s v a.mode (Secure a.target a.word)) h (rw (the-maximum s h.shaped, the-actor h, the-enabled-on h, the-mbec s h.shaped keeps, le-ltb _ _ c.if-target-gt-HIGHEST_LEVEL.false, ← c.secure_reserved_set.ensures, c.if-secure_reserved_set.false, ← c.is_user.ensures, c.if-is_user.false, le-ltb _ _ c.if-shape-target.false, ← c.active_of-actor.ensures, lt-leb _ _ c.if-actor-target.false, ← c.enabled_at.ensures, c.if-not-enabled_at.true))

pub returns-then-config-mbec_for : goal.returns-then-config-mbec_for
returns-then-config-mbec_for c s v masks h keeps = unfold acted rule_of first_of partition_of in let a = c.args in record-stays s (some v) (rule_of s v a.mode (Secure a.target a.word)) h (rw (the-maximum s h.shaped, the-actor h, the-enabled-on h, the-mbec s h.shaped keeps, le-ltb _ _ c.if-target-gt-HIGHEST_LEVEL.false, ← c.secure_reserved_set.ensures, c.if-secure_reserved_set.false, ← c.is_user.ensures, c.if-is_user.false, le-ltb _ _ c.if-shape-target.false, ← c.active_of-actor.ensures, lt-leb _ _ c.if-actor-target.false, ← c.enabled_at.ensures, c.if-not-enabled_at.false, ← ap (λ x. x.mbec_enabled) c.unpack-config.ensures, ← c.mbec_for.ensures, c.if-config-mbec_for.true))
