-- `write_mark` meets its contract, by its two lines. Assumes nothing.
use Rattle.records.specs.RecordTexts.{ended}
use Rattle.sheet.proofs.TextPutting.{put-start}
use Rattle.sheet.proofs.write_mark.Goals as goal

pub returns-then-right : goal.returns-then-right
unfolding ended
returns-then-right c =
    rw c.if-right.true (put-start c.args.out.now _ (rw c.if-right.true at c.requires) c.put.ensures)

pub returns : goal.returns
unfolding ended
returns c =
    rw c.if-right.false (put-start c.args.out.now _ (rw c.if-right.false at c.requires) c.put-2.ensures)
