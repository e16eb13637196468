-- `entry::next_up` meets its contract: the levels are tested from 1 up. Assumes nothing.
use Rattle.std.proofs.Common.{sym, ◌∙◌, arith}
use Rattle.processor.specs.Record.{vp_of}
use Rattle.entry.proofs.LevelSearches.{next-up-at, next-up-none}
use Rattle.entry.proofs.next_up.Goals as goal

pub returns-then-is_above : goal.returns-then-is_above
returns-then-is_above c =
    let a = c.args in
    next-up-at a.shape (vp_of a.vp.now) c.loop-number.number (omega arith) (rw (← c.active_of-active.ensures) (sym c.is_above.ensures ∙ c.if-is_above.true)) c.loop-number.invariant

pub returns : goal.returns
returns c =
    let a = c.args in
    next-up-none a.shape (vp_of a.vp.now) (λ k h. c.loop-number.invariant k (omega arith))
