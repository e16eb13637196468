-- `session::finish` meets its contract: nothing is written where a later line has no bytes, and else the line is ended.
-- Assumes nothing.
use Rattle.std.proofs.Common.{◌≤◌, length, sym, refl, arith, length-take-le}
use Rattle.session.specs.Session.{progress_of, state_in}
use Rattle.chunk.specs.Chunk.{held}
use Rattle.session.proofs.Ending.{last_none, last_some}
use Rattle.session.proofs.Feeding.{ended-at-most}
use Rattle.session.proofs.finish.Goals as goal

pub returns-then-is_later-len : goal.returns-then-is_later-len
returns-then-is_later-len c =
    let s = c.args.session in
    let none = last_none s.phase s.number (state_in s) (held s.line.buffer s.line.length) (rw (← c.len.ensures, ← c.is_later.ensures) c.if-is_later-len.true) in
    rw none record { session = refl; wrote = refl; out = refl; bounds = record { used-within = omega arith; wrote-within = omega arith; wrote-taken = refl } }

pub returns : goal.returns
returns c =
    let a = c.args in
    let some = last_some a.session.phase a.session.number (state_in a.session) (held a.session.line.buffer a.session.line.length) (rw (← c.len.ensures, ← c.is_later.ensures) c.if-is_later-len.false) in
    let e = c.end_line.ensures in
    let within : c.end_line.result.wrote ≤ length c.end_line.new.out =
    omega (arith, e.wrote, ended-at-most (progress_of a.session), c.end_line.auto.out, c.buffer-1.given) in
    rw some record {
      session = e.progress;
      wrote = e.wrote;
      out = e.written;
      bounds = record { used-within = omega arith; wrote-within = within; wrote-taken = sym (length-take-le _ _ within) };
    }
