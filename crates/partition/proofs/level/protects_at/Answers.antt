-- `level::protects_at` meets its contract: the level's word turns protections on. Assumes nothing.
use Rattle.model.specs.Masks.{protects_in}
use Rattle.partition.proofs.level.protects_at.Goals as goal

pub returns : goal.returns
unfolding protects_in
returns c = rw (c.turns_on.ensures, c.config_at.ensures)
