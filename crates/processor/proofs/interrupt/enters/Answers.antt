-- `interrupt::enters` meets its contract: the two tests of the definition. Assumes nothing.
use Rattle.model.specs.Entry.{enters}
use Rattle.processor.proofs.interrupt.enters.Goals as goal

pub returns : goal.returns
unfolding enters
returns c = rw (c.active_of.ensures, c.is_ready-ready.ensures)
