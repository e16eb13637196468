-- `record_registers::is_private` meets its contract: the tests of the definition. Assumes nothing.
use Rattle.model.specs.Registers.{is_private}
use mathlib.Core.Path.{refl}
use Rattle.processor.proofs.record_registers.is_private.Goals as goal

pub returns : goal.returns
unfolding is_private
returns c = refl
