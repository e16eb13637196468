-- `entry::leave` meets its contract: the active level's record names the level to go to. Assumes nothing.
use Rattle.model.specs.Entry.{restored, left}
use Rattle.entry.proofs.leave.Goals as goal

pub returns : goal.returns
unfolding left restored
returns c = rw (c.set_active.ensures, c.restore.ensures, c.control_of-control.ensures, c.active_of-active.ensures)
