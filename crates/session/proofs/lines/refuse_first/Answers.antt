-- `session::lines::refuse_first` meets its contract: the record has room. Assumes nothing.
use Rattle.session.proofs.lines.refuse_first.Goals as goal

pub returns : goal.returns
returns c =
    record {
      progress = c.blank-session.ensures;
      wrote = c.write_first-wrote.ensures.value;
      written = c.write_first-wrote.ensures.out_after;
    }
