-- `interrupt::top_vector` meets its contract. The loop's invariant: the words above are 0. Assumes nothing.
use Rattle.std.proofs.Common.{◌≡◌, ℕ, ◌<◌, ◌≤◌, get_or}
use Rattle.processor.proofs.interrupt.top_vector.Given as goal

abbrev pub invariant-loop-number : goal.invariant-loop-number
invariant-loop-number l = (k : ℕ) → l.number ≤ k → k < 4 → get_or l.words k 0 ≡ 0
