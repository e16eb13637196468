-- `int` meets its contract: the tests of its rule in their order, and then its effect. Assumes nothing.
use mathlib.Core.Path.{refl}
use mathlib.Core.Option.{none}
use borrow.Author.Tests.{lt-ltb, le-ltb}
use Rattle.model.specs.Answers.{first_of}
use Rattle.promise.proofs.Outcomes.{inside, record-stays, record-changes, the-maximum, the-enabled-on}
use Rattle.model.specs.Step.{maker, rule, ruled}
use Rattle.model.specs.declared.event.Event.TheVariants.{Int}
use Rattle.entry_events.proofs.int.Goals as goal

pub returns : goal.returns
unfolding ruled rule maker first_of
returns c s w h =
    let a = c.args in record-changes s none (rule s (Int w a.target a.vector)) h _ refl {x = c.one_if-entered.result} (rw (inside s w.0 h.there, the-maximum s h.shaped, the-enabled-on h, h.shaped, h.holds, le-ltb _ _ c.if-target-gt-HIGHEST_LEVEL.false, c.if-vector.false, le-ltb _ _ c.if-shape-target.false, ← c.enabled_at.ensures, c.if-not-enabled_at.false, ← c.enters.ensures, ← c.one_if-entered.ensures)) c.interrupt.ensures

pub returns-then-target-gt-HIGHEST_LEVEL : goal.returns-then-target-gt-HIGHEST_LEVEL
returns-then-target-gt-HIGHEST_LEVEL c s w h = unfold ruled rule maker first_of in let a = c.args in record-stays s none (rule s (Int w a.target a.vector)) h (rw (inside s w.0 h.there, the-maximum s h.shaped, the-enabled-on h, h.shaped, h.holds, lt-ltb _ _ c.if-target-gt-HIGHEST_LEVEL.true))

pub returns-then-vector : goal.returns-then-vector
returns-then-vector c s w h = unfold ruled rule maker first_of in let a = c.args in record-stays s none (rule s (Int w a.target a.vector)) h (rw (inside s w.0 h.there, the-maximum s h.shaped, the-enabled-on h, h.shaped, h.holds, le-ltb _ _ c.if-target-gt-HIGHEST_LEVEL.false, c.if-vector.true))

pub returns-then-shape-target : goal.returns-then-shape-target
returns-then-shape-target c s w h = unfold ruled rule maker first_of in let a = c.args in record-stays s none (rule s (Int w a.target a.vector)) h (rw (inside s w.0 h.there, the-maximum s h.shaped, the-enabled-on h, h.shaped, h.holds, le-ltb _ _ c.if-target-gt-HIGHEST_LEVEL.false, c.if-vector.false, lt-ltb _ _ c.if-shape-target.true))

pub returns-then-not-enabled_at : goal.returns-then-not-enabled_at
returns-then-not-enabled_at c s w h = unfold ruled rule maker first_of in let a = c.args in record-stays s none (rule s (Int w a.target a.vector)) h (rw (inside s w.0 h.there, the-maximum s h.shaped, the-enabled-on h, h.shaped, h.holds, le-ltb _ _ c.if-target-gt-HIGHEST_LEVEL.false, c.if-vector.false, le-ltb _ _ c.if-shape-target.false, ← c.enabled_at.ensures, c.if-not-enabled_at.true))
