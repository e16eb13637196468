-- `fresh::admissible` meets its contract: the clauses of the definition, joined. Assumes nothing.
use Rattle.model.specs.Fresh.{admissible}
use Rattle.state.proofs.fresh.admissible.Goals as goal

pub returns : goal.returns
unfolding admissible
returns c = rw (c.valid_mask-mask.ensures, c.in_range-sized.ensures)
