-- `session::lines::blank` meets its contract: in each phase. Assumes nothing.
use Rattle.session.proofs.Ending.{blank-in}
use Rattle.std.proofs.Common.{refl, ◌∙◌}
use Rattle.session.proofs.lines.blank.Goals as goal

pub returns : goal.returns
returns c = c.opened.ensures.progress ∙ blank-in c.args.phase 0 _ refl
