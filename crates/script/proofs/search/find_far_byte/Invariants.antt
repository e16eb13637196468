-- `script::search::find_far_byte` meets its contract. The loop's invariant: the byte stands where it next stands from `i` on. The
-- measure is what is left of the bytes. Assumes nothing.
use Prim.Native.Nat.{◌-◌}
use mathlib.Core.Path.{◌≡◌}
use lib.ListN.{length}
use Rattle.script.specs.Search.{byte_at}
use Rattle.script.proofs.search.find_far_byte.Given as goal

abbrev pub invariant-loop-i : goal.invariant-loop-i
invariant-loop-i l = byte_at l.byte l.bytes l.start ≡ byte_at l.byte l.bytes l.i

abbrev pub decreases-loop-i : goal.decreases-loop-i
decreases-loop-i l = length l.bytes - l.i
