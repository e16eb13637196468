-- `session::lines::end_line` meets its contract: by the phase. Assumes nothing.
use Rattle.std.proofs.Common.{refl}
use Rattle.session.specs.Session.{ended}
use Rattle.session.proofs.lines.end_line.Goals as goal

pub returns-in-First : goal.returns-in-First
returns-in-First c = rw c.in-First.is c.end_first.ensures

pub returns-in-Later : goal.returns-in-Later
returns-in-Later c = rw c.in-Later.is c.end_later.ensures

pub returns-in-Stopped : goal.returns-in-Stopped
unfolding ended
returns-in-Stopped c = rw c.in-Stopped.is (record { progress = refl; wrote = refl; written = refl })
