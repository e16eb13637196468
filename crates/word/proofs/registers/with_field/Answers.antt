-- `registers::with_field` meets its contract: the value is put where the field stands, which is within the word.
-- Assumes nothing.
use Rattle.word.proofs.RegisterFieldLaws.{within_word}
use Rattle.word.proofs.registers.with_field.Goals as goal

pub put-requires : goal.put-requires
put-requires c = rw c.position_of.ensures (within_word c.args.register c.args.field)

pub returns : goal.returns
returns c = rw (c.put.ensures, c.position_of.ensures)
