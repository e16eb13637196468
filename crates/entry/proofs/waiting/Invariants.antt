-- `entry::waiting` meets its contract. The loop's invariant: none of the levels from this one up waits. Assumes nothing.
use Rattle.std.proofs.Common.{◌≡◌, ℕ, ◌<◌, ◌≤◌, false}
use Rattle.processor.specs.Record.{vp_of}
use Rattle.entry.proofs.LevelSearches.{waits}
use Rattle.entry.proofs.waiting.Given as goal

abbrev pub invariant-loop-number : goal.invariant-loop-number
invariant-loop-number l = (k : ℕ) → l.number ≤ k → k < 4 → waits l.shape (vp_of l.vp) k ≡ false
