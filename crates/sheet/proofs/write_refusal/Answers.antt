-- `write_refusal` meets its contract: by its call. Assumes nothing.
use Rattle.records.specs.RecordTexts.{ended}
use Rattle.sheet.proofs.write_refusal.Goals as goal

pub returns : goal.returns
unfolding ended
returns c = c.put.ensures
