-- `write::write_places` meets its contract. The loop keeps what is left to write; the rank of the place that is due rises.
-- Assumes nothing.
use Prim.Native.Nat.{◌-◌}
use Rattle.records.specs.Places.{end_rank}
use Rattle.records.specs.Values.{value_at}
use Rattle.records.proofs.Walks.{due_rank}
use Rattle.state.specs.Lent.{lent}
use Rattle.transfer.proofs.Left.{Left}
use Rattle.transfer.proofs.write.write_places.Given as goal

abbrev pub invariant-loop-due : goal.invariant-loop-due
invariant-loop-due l =
    Left l.setup (value_at (lent l.setup l.parts.levels l.parts.masks l.parts.vps l.words)) l.initial.out l.start l.out l.at l.due

abbrev pub decreases-loop-due : goal.decreases-loop-due
decreases-loop-due l = end_rank l.setup - due_rank l.setup l.due
