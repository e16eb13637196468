-- `record_registers::shared_of` meets its contract, inside the array and past its end. Assumes nothing.
use Rattle.model.specs.Arrays.{number_at}
use Rattle.model.specs.Registers.{shared_of}
use Rattle.processor.proofs.RecordFields.{shared-read}
use borrow.Author.Tests.{le-ltb}
use Rattle.processor.proofs.record_registers.shared_of.Goals as goal

pub returns-then-place-ge-SHARED_REGISTERS : goal.returns-then-place-ge-SHARED_REGISTERS
unfolding shared_of number_at
returns-then-place-ge-SHARED_REGISTERS c = rw (← c.shared_place-place.ensures, le-ltb _ _ c.if-place-ge-SHARED_REGISTERS.true)

pub returns : goal.returns
returns c = shared-read _ _ _ c.shared_place-place.ensures c.if-place-ge-SHARED_REGISTERS.false
