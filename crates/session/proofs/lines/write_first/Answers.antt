-- `session::lines::write_first` meets its contract: the record is that of line 0. Assumes nothing.
use Rattle.std.proofs.Common.{◌∙◌, zero-add, arith}
use Rattle.session.proofs.Numbering.{own-number}
use Rattle.session.proofs.lines.write_first.Goals as goal

pub write_record-requires : goal.write_record-requires
write_record-requires c = record { longest_record_in_bounds = omega (arith, c.requires); numbered = own-number c.line_number.ensures }

pub returns : goal.returns
returns c =
    let w = rw c.line_number.ensures.number at c.write_record.ensures in
    record { value = w.value ∙ zero-add _; out_after = w.out_after }
