-- `set::member` meets its contract: the two tests of the definition. Assumes nothing.
use Rattle.model.specs.State.{in_set}
use Rattle.model.proofs.set.member.Goals as goal

pub returns : goal.returns
unfolding in_set
returns c = rw (c.in_set.ensures, c.is_level.ensures)
