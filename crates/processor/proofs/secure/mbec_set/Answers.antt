-- `secure::mbec_set` meets its contract, level by level. Assumes nothing.
use Rattle.model.proofs.Sets.{upper-bits}
use Rattle.processor.proofs.RecordLevels.{none-held}
use Rattle.processor.proofs.secure.mbec_set.Goals as goal

pub returns : goal.returns
returns c = rw (c.level_set.ensures, c.has_mbec-3.ensures, c.has_mbec-2.ensures, c.has_mbec.ensures) (upper-bits _ (none-held _ _ _ 0))
