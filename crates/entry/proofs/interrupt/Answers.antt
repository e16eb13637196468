-- `entry::interrupt` meets its contract: the test is made before the vector is pending. Assumes nothing.
use Rattle.model.specs.Entry.{interrupted}
use Rattle.entry.proofs.interrupt.Goals as goal

pub returns-then-entering : goal.returns-then-entering
unfolding interrupted
returns-then-entering c = rw (c.enter.ensures, c.set_pending.ensures, ← c.enters-entering.ensures, c.if-entering.true)

pub returns-else-entering : goal.returns-else-entering
unfolding interrupted
returns-else-entering c = rw (c.set_pending.ensures, ← c.enters-entering.ensures, c.if-entering.false)
