-- `asking::watcher` meets its contract. The loop's invariant: none of the levels below hears. Assumes nothing.
use Rattle.std.proofs.Common.{◌≡◌, ℕ, ◌<◌, false}
use Rattle.processor.specs.Record.{vp_of}
use Rattle.watch.specs.Asking.{asks_for}
use Rattle.watch.proofs.Watchers.{hearing}
use Rattle.watch.proofs.asking.watcher.Given as goal

abbrev pub invariant-loop-number : goal.invariant-loop-number
invariant-loop-number l = (k : ℕ) → k < l.number → hearing l.shape (vp_of l.vp) l.target.0 (asks_for l.access) k ≡ false
