-- The machine whose parts the functions of src/fresh.rt give is the fresh machine of the first line (01, "The bench model").
-- Assumes nothing.
use mathlib.Core.Path.{◌≡◌}
use mathlib.Core.List.{List}
use Prim.Native.Nat.{ℕ}
use lib.ListN.{replicate}
use Rattle.model.specs.declared.machine.FirstLine.{FirstLine}
use Rattle.model.specs.declared.machine.Setup.{Setup}
use Rattle.model.specs.Fresh.{fresh_vp, fresh_partition, fresh}
use Rattle.model.specs.Updates.{with_masks}
use Rattle.partition.specs.PartitionView.{partition_of}
use Rattle.processor.specs.Record.{vp_of}
use Rattle.state.specs.Lent.{machine_of, setup_of}

pub fresh-machine : (f : FirstLine) (setup : Setup) (levels masks words : List ℕ)
    → setup ≡ setup_of f → ((ks : List ℕ) → partition_of levels ks ≡ with_masks fresh_partition ks)
    → masks ≡ fresh_partition.masks → vp_of words ≡ fresh_vp
    → machine_of setup levels masks (replicate 4 words) ≡ (fresh f).machine
unfolding machine_of fresh
fresh-machine f setup levels masks words same sets rights blank = rw (same, sets masks, rights, blank)
