-- The invariant of `script::search::occurrences`: as many bytes are counted as stand before the next one, and no more than those. Assumes nothing.
use Rattle.std.proofs.Common.{◌≡◌, ◌≤◌, take}
use Rattle.script.specs.Search.{times}
use Rattle.script.proofs.search.occurrences.Given as goal

abbrev pub invariant-loop-found : goal.invariant-loop-found
invariant-loop-found l = (l.count ≡ times l.byte (take l.found-index l.bytes)) × (l.count ≤ l.found-index)
