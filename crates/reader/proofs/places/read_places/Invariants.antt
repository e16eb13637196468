-- `places::read_places` meets its contract. The loop's invariant: `Reads` of proofs/Taking.antt. The measure is what is left of the ranks.
-- Assumes nothing.
use Prim.Native.Nat.{◌-◌}
use Rattle.records.specs.Places.{end_rank}
use Rattle.records.proofs.Walks.{due_rank}
use Rattle.reader.specs.Slots.{parts_of}
use Rattle.reader.proofs.Taking.{Reads}
use Rattle.reader.proofs.places.read_places.Given as goal

abbrev pub invariant-loop-due : goal.invariant-loop-due
invariant-loop-due l =
    Reads l.setup l.input l.from (parts_of l.parts.levels l.parts.masks l.parts.vps l.words) l.at l.due

abbrev pub decreases-loop-due : goal.decreases-loop-due
decreases-loop-due l = end_rank l.setup - due_rank l.setup l.due
