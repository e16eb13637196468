-- The last line is what `finish` of crate `reasoned` has put at the start of the buffer.
use Rattle.shell.proofs.Using.{handed}
use Rattle.why.proofs.ReasonsTranscript.finish.Goals as goal

pub returns : goal.returns
returns c =
    let e = c.finish-wrote.ensures in
    handed _ _ _ _ e.wrote e.out e.bounds.wrote-within
