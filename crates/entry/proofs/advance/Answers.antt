-- `entry::advance` meets its contract: RIP of the active level. Assumes nothing.
use Rattle.model.specs.Entry.{advanced}
use Rattle.entry.proofs.advance.Goals as goal

pub returns : goal.returns
unfolding advanced
returns c = rw (c.set_private.ensures, c.wrapping_add_u64-rip.ensures.value, c.private_of.ensures, c.active_of-active.ensures)
