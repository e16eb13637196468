-- The records are what `feed` of crate `session` has put at the start of the buffer.
use Rattle.std.proofs.Common.{◌∙◌, length, arith}
use Rattle.session.proofs.WholeListing.{some-used}
use Rattle.session.specs.Session.{progress_of}
use Rattle.shell.proofs.Using.{handed}
use Rattle.shell.specs.Cutting.{fed-progress, fed-text}
use Rattle.shell.proofs.transcript.ListingTranscript.feed.Goals as goal

pub returns-clause-session : goal.returns-clause-session
returns-clause-session c =
    let e = c.feed.ensures in
    rw e.used (fed-progress c.feed.result.session (progress_of c.args.start) c.args.chunk.now (length c.args.self.now.records) e.session)

pub returns-clause-some : goal.returns-clause-some
returns-clause-some c = λ any.
    let e = c.feed.ensures in
    omega (arith, e.used, some-used (progress_of c.args.start) c.args.chunk.now (length c.args.self.now.records) (omega arith) (omega arith))

pub returns-clause-text : goal.returns-clause-text
returns-clause-text c =
    let e = c.feed.ensures in
    rw e.used (handed _ _ _ _ e.wrote e.out e.bounds.wrote-within ∙ fed-text (progress_of c.args.start) c.args.chunk.now (length c.args.self.now.records))
