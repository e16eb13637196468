-- `record::set_active` meets its contract: word 0. Assumes nothing.
use Rattle.processor.proofs.RecordFields.{active-set}
use borrow.Author.Rules.{rules}
use Rattle.processor.proofs.record.set_active.Goals as goal

pub returns : goal.returns
returns c = active-set _ _ (search rules)
