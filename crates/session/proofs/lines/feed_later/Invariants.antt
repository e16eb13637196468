-- `session::lines::feed_later` meets its contract. The loop's invariant is `Feeds`, with a session in a later line of which it
-- holds nothing, and the measure is what is left of the chunk. Assumes nothing.
use Rattle.std.proofs.Common.{◌≡◌, ◌-◌, [], length, take}
use Rattle.model.specs.WellFormed.{well_formed}
use Rattle.session.proofs.Feeding.{Feeds}
use Rattle.session.specs.LineNumbers.{Numbered}
use Rattle.session.specs.Session.{later, state_in}
use Rattle.state.specs.Lent.{lent}
use Rattle.session.proofs.lines.feed_later.Given as goal

abbrev pub invariant-loop-setup : goal.invariant-loop-setup
invariant-loop-setup l =
    (length l.words ≡ 64)
    × (l.formed ≡ well_formed (lent l.setup l.parts.levels l.parts.masks l.parts.vps (take l.lent l.words)))
    × Feeds (later l.start.number (state_in l.start) []) l.chunk l.from l.initial.out l.at l.out (later l.line.number (lent l.setup l.parts.levels l.parts.masks l.parts.vps (take l.lent l.words)) []) l.i l.wrote
    × Numbered l.line l.line.number

abbrev pub decreases-loop-setup : goal.decreases-loop-setup
decreases-loop-setup l = length l.chunk - l.i
