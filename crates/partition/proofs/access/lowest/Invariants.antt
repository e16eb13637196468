-- `lowest` meets its contract. The loop's invariant: no level below is in both sets. Assumes nothing.
use Rattle.std.proofs.Common.{◌≡◌, ℕ, ◌<◌, ◌&&◌, false}
use Rattle.word.specs.Field.{bit}
use Rattle.partition.proofs.access.lowest.Given as goal

abbrev pub invariant-loop-number : goal.invariant-loop-number
invariant-loop-number l = (k : ℕ) → k < l.number → (bit l.set.0 k && bit l.enabled.0 k) ≡ false
