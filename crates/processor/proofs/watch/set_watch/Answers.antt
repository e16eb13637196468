-- `watch::set_watch` meets its contract, word by word. Assumes nothing.
use Rattle.processor.proofs.RecordStores.{watch-stored}
use Rattle.processor.proofs.RecordWords.{contexts-length}
use Rattle.processor.proofs.watch.set_watch.Goals as goal

pub returns : goal.returns
returns c = watch-stored _ _ _ _ _ _ _ (contexts-length _) c.set_level_word.ensures c.set_level_word-2.ensures c.set_level_word-3.ensures
