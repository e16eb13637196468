-- `passing::consume` meets its contract: from what is left of the chunk the session comes as far as from all of it. Assumes nothing.
use mathlib.Core.Path.{◌≡◌}
use lib.ListN.{length}
use Rattle.session.specs.Session.{consumed, progress_of}
use Rattle.passing.proofs.consume.Given as goal

abbrev pub invariant-loop-rest : goal.invariant-loop-rest
invariant-loop-rest l =
    (65536 ≡ length l.records)
    × ((consumed (progress_of l.initial.s) l.chunk).progress ≡ (consumed (progress_of l.s) l.rest).progress)

abbrev pub decreases-loop-rest : goal.decreases-loop-rest
decreases-loop-rest l = length l.rest
