-- `access::denies` meets its contract: the three tests of the rule, each by its own function. Assumes nothing.
use Rattle.model.specs.Memory.{denies_in}
use Rattle.partition.specs.PartitionView.{partition_of}
use Rattle.partition.proofs.access.denies.Goals as goal

pub returns : goal.returns
unfolding denies_in partition_of
returns c =
    rw (c.has_bit-allowed.ensures, c.needed.ensures, c.mask_at-mask.ensures, c.protects_at-on.ensures)
