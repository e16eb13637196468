-- config: the masks are filled or not, and then the word is stored; the rule says both in one. Assumes nothing.
use mathlib.Core.Path.{◌≡◌, refl, ◌∙◌}
use mathlib.Core.Bool.{Bool, true, false, not, cond, ◌&&◌}
use mathlib.Core.List.{List}
use Prim.Native.Nat.{ℕ}
use Rattle.model.specs.declared.machine.Partition.{Partition}
use Rattle.model.specs.declared.machine.Shape.{Shape}
use Rattle.model.specs.Events.{configured}
use Rattle.model.specs.Masks.{turns_on, default_mask, protects_in}
use Rattle.model.specs.Updates.{set_config, filled, fill_masks}
use Rattle.partition.specs.PartitionView.{configs_in, partition_of}

pub configured-by : (z : Shape) (P g w : ℕ) (levels masks masks' : List ℕ) {x : Partition}
    → masks' ≡ cond (turns_on w && not (protects_in z (configs_in levels) g)) (filled 64 P g (default_mask w) masks) masks
    → x ≡ set_config (partition_of levels masks') g w → x ≡ configured z P (partition_of levels masks) g w
unfolding configured partition_of
configured-by z P g w levels masks masks' m c = c ∙ rw m (go (turns_on w && not (protects_in z (configs_in levels) g)))
  where
    go : (b : Bool) → set_config (partition_of levels (cond b (filled 64 P g (default_mask w) masks) masks)) g w
        ≡ cond b (fill_masks P (set_config (partition_of levels masks) g w) g (default_mask w)) (set_config (partition_of levels masks) g w)
    go true = unfold set_config fill_masks in refl
    go false = refl
