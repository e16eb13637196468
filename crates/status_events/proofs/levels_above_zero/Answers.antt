-- `levels_above_zero` meets its contract: the set of four tests. Assumes nothing.
use Rattle.model.proofs.Sets.{bits-four}
use Rattle.status_events.proofs.levels_above_zero.Goals as goal

pub returns : goal.returns
returns c =
    rw (c.level_set.ensures, c.is_level-3.ensures, c.is_level-2.ensures, c.is_level.ensures)
    (bits-four _)
