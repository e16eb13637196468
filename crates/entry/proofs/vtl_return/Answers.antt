-- `entry::vtl_return` meets its contract: the steps in the definition's order. Assumes nothing.
use Rattle.model.specs.Entry.{returned}
use Rattle.entry.proofs.vtl_return.Goals as goal

pub returns : goal.returns
unfolding returned
returns c = rw (c.reenter.ensures, c.leave.ensures, c.unlock.ensures, c.advance_after_call.ensures, c.active_of-actor.ensures)
