-- `session::lines::begin` meets its contract: the state is the fresh one, and the record has room. Assumes nothing.
use Rattle.session.proofs.Ending.{fresh-words}
use Rattle.std.proofs.Common.{◌∙◌}
use Rattle.session.proofs.lines.begin.Goals as goal

pub returns : goal.returns
returns c =
    let o = c.opened-session.ensures in
    record {
      progress = o.progress ∙ rw (o.state, fresh-words c.args.first c.requires.first_value);
      wrote = c.write_first-wrote.ensures.value;
      written = c.write_first-wrote.ensures.out_after;
    }
