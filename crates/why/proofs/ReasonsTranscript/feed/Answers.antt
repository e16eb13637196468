-- The text is what `feed_line` has put at the start of the buffer.
use Rattle.shell.proofs.Using.{handed}
use Rattle.why.proofs.ReasonsTranscript.feed.Goals as goal

pub returns-clause-text : goal.returns-clause-text
returns-clause-text c =
    let e = c.feed_line.ensures in
    rw e.used (handed _ _ _ _ e.wrote e.out e.bounds.wrote-within)
