-- `session::lines::keep` meets its contract: the line of the session is what `append` leaves. Assumes nothing.
use Rattle.session.proofs.Ending.{keep-in}
use Rattle.session.proofs.lines.keep.Goals as goal

pub returns : goal.returns
returns c = let s = c.args.start in keep-in s.phase _ _ _ _ _ c.append.ensures
