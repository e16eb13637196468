-- `record_registers::set_shared` meets its contract, inside the array and past its end. Assumes nothing.
use Rattle.model.specs.Arrays.{stored}
use Rattle.model.specs.Updates.{set_shared}
use Rattle.processor.proofs.RecordFields.{shared-set}
use borrow.Author.Tests.{lt-ltb, le-ltb}
use Rattle.processor.proofs.record_registers.set_shared.Goals as goal

pub returns-then-place-ge-SHARED_REGISTERS : goal.returns-then-place-ge-SHARED_REGISTERS
unfolding set_shared stored
returns-then-place-ge-SHARED_REGISTERS c = rw (← c.shared_place-place.ensures, le-ltb _ _ c.if-place-ge-SHARED_REGISTERS.true)

pub returns : goal.returns
unfolding set_shared stored
returns c = rw (← c.shared_place-place.ensures, lt-ltb _ _ c.if-place-ge-SHARED_REGISTERS.false) (shared-set _ _ _ c.if-place-ge-SHARED_REGISTERS.false)
