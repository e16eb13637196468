-- `control::set_row` meets its contract: the row is replaced as a whole. Assumes nothing.
use Rattle.std.proofs.Common.{rules, arith}
use Rattle.processor.proofs.RecordRows.{row-put, row-within}
use Rattle.processor.proofs.control.set_row.Goals as goal

pub returns-clause-row : goal.returns-clause-row
returns-clause-row c = rw c.copy_from_slice.ensures.after (row-put _ _ _ _ c.requires (search rules) (omega arith) (search rules))

pub returns-clause-rest : goal.returns-clause-rest
returns-clause-rest c = rw c.copy_from_slice.ensures.after (row-within _ _ _ _ c.requires (search rules) (omega arith) (search rules))
