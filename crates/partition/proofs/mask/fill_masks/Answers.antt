-- `fill_masks` meets its contract: page by page. Assumes nothing.
use native.Mathlib.Omega.{arith}
use Rattle.partition.proofs.Counted.{filled_none, filled_more, filled-done}
use Rattle.partition.proofs.mask.fill_masks.Goals as goal

pub loop-index-init : goal.loop-index-init
loop-index-init c = filled_none _ _ _ _

pub loop-index-preserved : goal.loop-index-preserved
loop-index-preserved c = filled_more _ _ _ _ _ c.loop-index.invariant c.set_page_mask.ensures

pub returns : goal.returns
returns c = filled-done _ _ _ _ 64 _ c.loop-index.invariant (omega arith) c.loop-index-test.false
