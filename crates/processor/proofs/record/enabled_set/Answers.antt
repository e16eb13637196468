-- `record::enabled_set` meets its contract: word 1, level by level. Assumes nothing.
use mathlib.Core.Path.{◌∙◌}
use Rattle.model.proofs.Sets.{bits-cong}
use Rattle.processor.proofs.RecordFields.{enabled-word}
use Rattle.processor.proofs.record.enabled_set.Goals as goal

pub returns : goal.returns
returns c = c.members.ensures ∙ bits-cong 4 _ _ (λ l h. enabled-word _ _ l)
