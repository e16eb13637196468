-- What `run` keeps is `Ran` and `Reads`, nothing has failed, and the buffer has its length. A session that had stopped before has read nothing. Assumes nothing.
use Rattle.std.proofs.Common.{◌≡◌, length, true}
use Rattle.session.specs.Session.{is_stopped, progress_of}
use Rattle.shell.specs.Report.{is_done}
use Rattle.shell.proofs.Running.{Ran, Reads}
use Rattle.shell.proofs.run.Given as goal

abbrev pub invariant-loop-turn : goal.invariant-loop-turn
invariant-loop-turn g l =
    Ran g.T.Transcript.told (progress_of l.initial.s) (progress_of l.s) (g.R.Read.remaining l.initial.input) (g.R.Read.remaining l.input)
    (g.W.Write.contents l.initial.output) (g.W.Write.contents l.output) l._turn
    × (is_done l.report.outcome ≡ is_done l.initial.report.outcome)
    × (65536 ≡ length l.chunk)
    × (is_stopped (progress_of l.initial.s) ≡ true → (progress_of l.s ≡ progress_of l.initial.s) × (g.R.Read.remaining l.input ≡ g.R.Read.remaining l.initial.input))
    × Reads (progress_of l.initial.s) (progress_of l.s) (g.R.Read.remaining l.initial.input) (g.R.Read.remaining l.input)
