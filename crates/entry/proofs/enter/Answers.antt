-- `entry::enter` meets its contract: the control record, then the active level. Assumes nothing.
use Rattle.model.specs.Entry.{enter}
use Rattle.model.specs.State.{active_of}
use Rattle.entry.proofs.enter.Goals as goal

pub returns : goal.returns
unfolding enter active_of
returns c = rw (c.set_active.ensures, c.set_control.ensures, c.shared_of-2.ensures, c.shared_of.ensures, c.active_of.ensures)
