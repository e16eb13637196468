-- `host_denies` meets its contract: the host's mask lacks the needed bit. Assumes nothing.
use Rattle.model.specs.Memory.{host_denies_by}
use Rattle.partition.proofs.access.host_denies.Goals as goal

pub returns : goal.returns
unfolding host_denies_by
returns c = rw (c.has_bit-allowed.ensures, c.needed.ensures)
