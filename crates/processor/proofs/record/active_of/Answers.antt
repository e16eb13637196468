-- `record::active_of` meets its contract: word 0. Assumes nothing.
use Rattle.model.specs.State.{active_of}
use Rattle.processor.specs.Record.{vp_of}
use mathlib.Core.Path.{refl}
use Rattle.processor.proofs.record.active_of.Goals as goal

pub returns : goal.returns
unfolding active_of vp_of
returns c = refl
