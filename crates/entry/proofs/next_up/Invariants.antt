-- `entry::next_up` meets its contract. The loop's invariant: the levels below are not above the active one and enabled. Assumes nothing.
use Rattle.std.proofs.Common.{◌≡◌, ℕ, ◌<◌, false}
use Rattle.processor.specs.Record.{vp_of}
use Rattle.entry.proofs.LevelSearches.{above}
use Rattle.entry.proofs.next_up.Given as goal

abbrev pub invariant-loop-number : goal.invariant-loop-number
invariant-loop-number l = (k : ℕ) → k < l.number → above l.shape (vp_of l.vp) k ≡ false
