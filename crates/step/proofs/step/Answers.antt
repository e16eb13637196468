-- `step` meets its contract: a well-formed state has at most four processors (`step-as-if`). Assumes nothing.
use Rattle.step.proofs.KnownFormed.{step-as-if}
use mathlib.Core.Path.{◌∙◌}
use Rattle.step.proofs.step.Goals as goal

pub returns : goal.returns
returns c = c.step_if.ensures ∙ step-as-if _ _ _ c.well_formed-formed.ensures
