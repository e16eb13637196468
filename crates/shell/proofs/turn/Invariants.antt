-- What `turn` keeps is `Used`, and no write has failed. Every turn of the loop uses some of what is left of the chunk.
use Rattle.std.proofs.Common.{◌≡◌, length}
use Rattle.session.specs.Session.{progress_of}
use Rattle.shell.specs.Report.{is_done}
use Rattle.shell.proofs.Using.{Used}
use Rattle.shell.proofs.turn.Given as goal

abbrev pub invariant-loop-rest : goal.invariant-loop-rest
invariant-loop-rest g l =
    (is_done l.report.outcome ≡ is_done l.initial.report.outcome)
    × Used g.T.Transcript.told (progress_of l.initial.session) l.chunk l.rest (progress_of l.session) (g.W.Write.contents l.initial.output) (g.W.Write.contents l.output)

abbrev pub decreases-loop-rest : goal.decreases-loop-rest
decreases-loop-rest g l = length l.rest
