-- `watch::none_watches` meets its contract: the three words. Assumes nothing.
use mathlib.Core.Path.{refl}
use Rattle.processor.proofs.watch.none_watches.Goals as goal

pub returns : goal.returns
returns c = refl
