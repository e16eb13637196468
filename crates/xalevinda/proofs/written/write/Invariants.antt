-- `xalevinda::written::write` meets its contract: what is left of the script gives what is left to write. Assumes nothing.
use mathlib.Core.Path.{◌≡◌}
use lib.ListN.{length}
use Rattle.session.specs.Session.{consumed, finished, progress_of}
use Rattle.xalevinda.proofs.Storing.{Partly}
use Rattle.xalevinda.proofs.written.write.Given as goal

abbrev pub invariant-loop-rest : goal.invariant-loop-rest
invariant-loop-rest l =
    (65536 ≡ length l.records)
    × Partly (finished (consumed (progress_of l.initial.s) l.script)) (finished (consumed (progress_of l.s) l.rest)) l.initial.size l.initial.out l.size l.out

abbrev pub decreases-loop-rest : goal.decreases-loop-rest
decreases-loop-rest l = length l.rest
