-- What was read lies in the buffer, and no read has failed. Every turn of the loop fills some of what is left of the buffer.
use Rattle.std.proofs.Common.{◌≡◌, length, take, ◌-◌, ◌≤◌}
use Rattle.std.specs.Io.KnownBytes.{Consumes}
use Rattle.shell.specs.Report.{is_done}
use Rattle.shell.proofs.fill.Given as goal

abbrev pub invariant-loop-done : goal.invariant-loop-done
invariant-loop-done g l =
    (l.done ≤ length l.chunk)
    × (is_done l.report.outcome ≡ is_done l.initial.report.outcome)
    × Consumes (g.R.Read.remaining l.initial.input) (g.R.Read.remaining l.input) (take l.done l.chunk)

abbrev pub decreases-loop-done : goal.decreases-loop-done
decreases-loop-done g l = length l.initial.chunk - l.done
