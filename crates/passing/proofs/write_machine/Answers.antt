-- `passing::write_machine` meets its contract: the parts are those of the session's state, and its text has room. Assumes nothing.
use native.Mathlib.Omega.{arith}
use Rattle.session.specs.Session.{state_in}
use Rattle.passing.proofs.SavedSessions.{sent-in-room}
use Rattle.passing.proofs.write_machine.Goals as goal

pub slice_bounds-write_records-end : goal.slice_bounds-write_records-end
slice_bounds-write_records-end c = omega (arith, c.lent_words-lent.ensures)

pub returns : goal.returns
returns c =
    let a = c.args in
    let sent = rw c.lent_words-lent.ensures.number at c.write_records.ensures in
    let r = sent-in-room (state_in a.session) a.out.now (omega (arith, c.write_records-arg-1.given)) sent.value sent.out_after in
    record { value = r.0; out_after = r.1.0; bounds = r.1.1 }
