-- `session::lines::opened` meets its contract: the machine is the fresh one. Assumes nothing.
use Rattle.model.specs.declared.machine.Machine.{Machine}
use Rattle.session.specs.Session.{lent_of}
use Rattle.state.proofs.FreshMachine.{fresh-machine}
use Rattle.std.proofs.Common.{replicate, ap}
use Rattle.session.proofs.lines.opened.Goals as goal

pub returns : goal.returns
returns c = record { progress = rw c.new.ensures; state = ap (λ (m : Machine). record { machine = m; words = lent_of (replicate 64 0) c.args.lent }) (fresh-machine _ _ _ _ _ c.setup_of.ensures c.fresh_levels.ensures c.fresh_masks.ensures c.fresh_record.ensures) }
