-- The last record is what `finish` of crate `session` has put at the start of the buffer.
use Rattle.shell.proofs.Using.{handed}
use Rattle.shell.proofs.transcript.ListingTranscript.finish.Goals as goal

pub returns : goal.returns
returns c =
    let e = c.finish-ended.ensures in
    handed _ _ _ _ e.wrote e.out e.bounds.wrote-within
