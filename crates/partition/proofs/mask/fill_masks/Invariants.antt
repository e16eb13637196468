-- `fill_masks` meets its contract. The loop's invariant: the masks of the pages below are filled. Assumes nothing.
use mathlib.Core.Path.{◌≡◌}
use Rattle.model.specs.Updates.{filled}
use Rattle.partition.proofs.mask.fill_masks.Given as goal

abbrev pub invariant-loop-index : goal.invariant-loop-index
invariant-loop-index l = l.masks ≡ filled l.index l.pages l.level.0 l.mask l.initial.masks
