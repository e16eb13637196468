-- `record_registers::private_of` meets its contract, within the registers and past them. Assumes nothing.
use Rattle.model.specs.Arrays.{number_at}
use Rattle.model.specs.Registers.{private_of}
use Rattle.processor.proofs.RecordStores.{private-read}
use borrow.Author.Tests.{le-ltb}
use mathlib.Core.Path.{◌∙◌}
use Rattle.processor.proofs.record_registers.private_of.Goals as goal

pub returns-then-register-ge-PRIVATE_REGISTERS : goal.returns-then-register-ge-PRIVATE_REGISTERS
unfolding private_of number_at
returns-then-register-ge-PRIVATE_REGISTERS c = rw (le-ltb _ _ c.if-register-ge-PRIVATE_REGISTERS.true)

pub returns : goal.returns
returns c = c.level_word.ensures.word ∙ private-read _ _ _ _ c.if-register-ge-PRIVATE_REGISTERS.false
