-- `watch::watch_of` meets its contract, word by word. Assumes nothing.
use Rattle.processor.proofs.RecordStores.{watch-read}
use Rattle.processor.proofs.watch.watch_of.Goals as goal

pub returns : goal.returns
returns c = watch-read _ _ _ _ c.level_word.ensures.word c.level_word-2.ensures.word c.level_word-3.ensures.word
