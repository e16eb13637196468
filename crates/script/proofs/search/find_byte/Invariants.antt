-- The invariant of `script::search::find_byte`: the byte stands where it next stands from `i` on. Assumes nothing.
use mathlib.Core.Path.{◌≡◌}
use Rattle.script.specs.Search.{byte_at}
use Rattle.script.proofs.search.find_byte.Given as goal

abbrev pub invariant-loop-i : goal.invariant-loop-i
invariant-loop-i l = byte_at l.byte l.bytes l.start ≡ byte_at l.byte l.bytes l.i
