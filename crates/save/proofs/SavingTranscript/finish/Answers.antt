-- The records are what `passing::save` has put at the start of the buffer.
use Rattle.shell.proofs.Using.{handed}
use Rattle.save.proofs.SavingTranscript.finish.Goals as goal

pub returns : goal.returns
returns c =
    let e = c.save-size.ensures in
    handed _ _ _ _ e.wrote e.out e.bounds.wrote-within
