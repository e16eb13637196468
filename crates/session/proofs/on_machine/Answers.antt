-- `session::on_machine` meets its contract: the records are those of the array. Assumes nothing.
use Rattle.state.specs.Lent.{machine_of}
use Rattle.session.proofs.on_machine.Goals as goal

pub returns : goal.returns
unfolding machine_of
returns c = rw c.new.ensures
