-- `well_formed_vp::never_entered` meets its contract: the clauses of the definition, joined. Assumes nothing.
use Rattle.model.specs.WellFormed.{never_entered}
use Rattle.state.proofs.FormedClauses.{all-joined}
use Rattle.state.proofs.well_formed_vp.never_entered.Goals as goal

pub returns : goal.returns
unfolding never_entered
returns c = all-joined _ _
