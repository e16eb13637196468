-- `secure::clear_lock` meets its contract: the word is stored without its lock. Assumes nothing.
use Rattle.processor.proofs.RecordStores.{held-read, secure-put}
use mathlib.Core.Path.{◌∙◌}
use Rattle.processor.proofs.secure.clear_lock.Goals as goal

pub returns : goal.returns
returns c =
    let low = c.requires in
    rw (← held-read _ _ _ _ low) (c.set_level_bit.ensures ∙ secure-put _ _ _ _ _ low)
