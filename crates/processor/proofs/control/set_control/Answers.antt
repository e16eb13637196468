-- `control::set_control` meets its contract, word by word. Assumes nothing.
use Rattle.processor.proofs.RecordStores.{control-stored}
use Rattle.processor.proofs.RecordWords.{contexts-length}
use Rattle.processor.proofs.control.set_control.Goals as goal

pub returns : goal.returns
returns c = control-stored _ _ _ _ _ _ _ _ (contexts-length _) c.set_level_word.ensures c.set_level_word-2.ensures c.set_level_word-3.ensures c.set_level_word-4.ensures
