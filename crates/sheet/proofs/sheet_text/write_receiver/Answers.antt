-- `sheet_text::write_receiver` meets its contract: `none`, or the level's number. Assumes nothing.
use Rattle.sheet.proofs.TextPutting.{put-start}
use Rattle.sheet.specs.Sheets.{receiver_field}
use Rattle.sheet.proofs.sheet_text.write_receiver.Goals as goal

pub returns-in-None : goal.returns-in-None
unfolding receiver_field
returns-in-None c =
    rw c.in-None.is (put-start c.args.out.now _ (rw c.in-None.is at c.requires) c.put.ensures)

pub returns-in-Some : goal.returns-in-Some
unfolding receiver_field
returns-in-Some c =
    rw c.in-Some.is (put-start c.args.out.now _ (rw c.in-Some.is at c.requires) c.write.ensures)
