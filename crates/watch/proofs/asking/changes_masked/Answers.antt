-- `asking::changes_masked` meets its contract: the bits that differ, and of these the masked ones. Assumes nothing.
use Rattle.watch.proofs.MaskedBits.{masked}
use Rattle.watch.proofs.asking.changes_masked.Goals as goal

pub returns : goal.returns
returns c = masked c.args.mask c.args.old c.args.new c.ranges.mask.fits
