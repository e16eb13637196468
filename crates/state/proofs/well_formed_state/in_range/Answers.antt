-- `well_formed_state::in_range` meets its contract: the clauses of the definition, joined. Assumes nothing.
use Rattle.model.specs.State.{in_range}
use Rattle.state.proofs.FormedClauses.{all-joined}
use Rattle.state.proofs.well_formed_state.in_range.Goals as goal

pub returns : goal.returns
unfolding in_range
returns c = all-joined _ _
