-- `record::enabled_at` meets its contract: a bit of word 1. Assumes nothing.
use Rattle.processor.proofs.RecordFields.{enabled-word}
use Rattle.processor.proofs.record.enabled_at.Goals as goal

pub returns : goal.returns
returns c = rw c.member.ensures (enabled-word _ _ _)
