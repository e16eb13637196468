-- `passing::save` meets its contract: by the phase in which the end of the script leaves the session. Assumes nothing.
use mathlib.Core.List.{[]}
use native.Mathlib.Omega.{arith}
use Rattle.passing.proofs.SavedSessions.{line-zero-within}
use Rattle.passing.proofs.save.Goals as goal

pub returns-in-First : goal.returns-in-First
returns-in-First c =
    let wrote = c.write_line_zero.ensures in
    let bounds = line-zero-within {used = 0} {input = []} c.args.out.now 1 (omega arith) (omega (arith, c.write_line_zero-arg-1.given)) wrote.value wrote.out_after in
    rw (← c.finish-ended.ensures.session, c.in-First.is) record { wrote = wrote.value; out = wrote.out_after; bounds = bounds }

pub returns-in-Later : goal.returns-in-Later
returns-in-Later c =
    let w = c.write_machine.ensures in
    rw (← c.finish-ended.ensures.session, c.in-Later.is) record { wrote = w.value; out = w.out_after; bounds = w.bounds }

pub returns-in-Stopped : goal.returns-in-Stopped
returns-in-Stopped c =
    let wrote = c.write_line_zero-in-Stopped.ensures in
    let bounds = line-zero-within {used = 0} {input = []} c.args.out.now 1 (omega arith) (omega (arith, c.write_line_zero-arg-in-Stopped-1.given)) wrote.value wrote.out_after in
    rw (← c.finish-ended.ensures.session, c.in-Stopped.is) record { wrote = wrote.value; out = wrote.out_after; bounds = bounds }
