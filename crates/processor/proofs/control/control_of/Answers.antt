-- `control::control_of` meets its contract, word by word. Assumes nothing.
use Rattle.processor.proofs.RecordStores.{control-read}
use Rattle.processor.proofs.control.control_of.Goals as goal

pub returns : goal.returns
returns c = control-read _ _ _ _ c.level_word.ensures.word c.level_word-2.ensures.word c.level_word-3.ensures.word c.level_word-4.ensures.word
