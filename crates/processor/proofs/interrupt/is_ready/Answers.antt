-- `interrupt::is_ready` meets its contract: the class above TPR. Assumes nothing.
use Rattle.model.specs.Entry.{is_ready}
use Rattle.processor.proofs.RecordStores.{tpr-read}
use Rattle.processor.proofs.interrupt.is_ready.Goals as goal

pub returns : goal.returns
unfolding is_ready
returns c = rw (c.level_word.ensures.word, tpr-read _ _ _)
