-- `entry::waiting` meets its contract: the levels are tested from 3 down. Assumes nothing.
use Rattle.std.proofs.Common.{sym, ◌∙◌, arith}
use Rattle.processor.specs.Record.{vp_of}
use Rattle.entry.proofs.LevelSearches.{waiting-at, waiting-none}
use Rattle.entry.proofs.waiting.Goals as goal

pub returns-then-is_waiting : goal.returns-then-is_waiting
returns-then-is_waiting c =
    let a = c.args in
    waiting-at a.shape (vp_of a.vp.now) _ (omega arith) (omega arith) (rw (← c.active_of-active.ensures) (sym c.is_waiting.ensures ∙ c.if-is_waiting.true))
    (λ k h b. c.loop-number.invariant k (omega arith) b)

pub returns : goal.returns
returns c =
    let a = c.args in
    waiting-none a.shape (vp_of a.vp.now) (λ k h b. c.loop-number.invariant k (omega arith) b)
