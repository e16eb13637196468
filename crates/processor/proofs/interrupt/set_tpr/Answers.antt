-- `interrupt::set_tpr` meets its contract: word 13 of the level. Assumes nothing.
use Rattle.model.specs.Arrays.{stored}
use Rattle.model.specs.Updates.{set_tpr}
use Rattle.processor.proofs.interrupt.set_tpr.Goals as goal

pub returns : goal.returns
unfolding set_tpr stored
returns c = c.set_level_word.ensures
