-- `line::past_indices` meets its contract. The loop's invariant: `Behind` of proofs/Beginnings.antt. Assumes nothing.
use Rattle.reader.proofs.Beginnings.{Behind}
use Rattle.reader.proofs.line.past_indices.Given as goal

abbrev pub invariant-loop-index : goal.invariant-loop-index
invariant-loop-index l = Behind l.line l.at l.indices l.index-index l.end
