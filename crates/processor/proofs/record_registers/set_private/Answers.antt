-- `record_registers::set_private` meets its contract, within the registers and past them. Assumes nothing.
use Rattle.model.specs.Arrays.{stored}
use Rattle.model.specs.Updates.{set_private}
use Rattle.processor.proofs.RecordStores.{private-put}
use Rattle.processor.proofs.RecordWords.{put_same}
use borrow.Author.Tests.{le-ltb}
use mathlib.Core.Path.{sym, ◌∙◌}
use Rattle.processor.proofs.record_registers.set_private.Goals as goal

pub returns-then-register-ge-PRIVATE_REGISTERS : goal.returns-then-register-ge-PRIVATE_REGISTERS
unfolding set_private stored
returns-then-register-ge-PRIVATE_REGISTERS c = rw (le-ltb _ _ c.if-register-ge-PRIVATE_REGISTERS.true) (sym (put_same _ _ _))

pub returns : goal.returns
returns c = c.set_level_word.ensures ∙ private-put _ _ _ _ _ c.if-register-ge-PRIVATE_REGISTERS.false
