-- `asking::watcher` meets its contract: the target is the actor, and the levels above it are asked from the lowest up. Assumes nothing.
use Rattle.std.proofs.Common.{sym, ◌∙◌, arith, eq-eqb, ne_eqb}
use Rattle.processor.specs.Record.{vp_of}
use Rattle.watch.specs.Asking.{asks_for}
use Rattle.watch.proofs.Watchers.{not_own, not-found, told, none_hears}
use Rattle.watch.proofs.asking.watcher.Goals as goal

pub returns-then-target-active_of : goal.returns-then-target-active_of
returns-then-target-active_of c =
    let a = c.args in
    not-found (not_own a.shape (vp_of a.vp.now) a.target.0 (asks_for a.access) (rw (← c.active_of.ensures) (ne_eqb _ _ c.if-target-active_of.true)))

pub returns-then-hears : goal.returns-then-hears
returns-then-hears c =
    let a = c.args in
    told a.shape (vp_of a.vp.now) a.target.0 (asks_for a.access) (rw (← c.active_of.ensures) (eq-eqb _ _ c.if-target-active_of.false))
    c.loop-number.number (omega arith) (sym c.hears.ensures ∙ c.if-hears.true) c.loop-number.invariant

pub returns : goal.returns
returns c =
    let a = c.args in
    not-found (none_hears a.shape (vp_of a.vp.now) a.target.0 (asks_for a.access) (rw (← c.active_of.ensures) (eq-eqb _ _ c.if-target-active_of.false))
    (λ k h. c.loop-number.invariant k (omega arith)))
