-- `sheet_text::write_kind` meets its contract, word by word. Assumes nothing.
use Rattle.sheet.proofs.TextPutting.{put_written}
use Rattle.sheet.specs.Sheets.{kind_field}
use Rattle.sheet.proofs.sheet_text.write_kind.Goals as goal

pub returns-then-mbec : goal.returns-then-mbec
unfolding kind_field
returns-then-mbec c =
    rw c.if-mbec.true (put_written c.args.out.now c.args.at _ (rw c.if-mbec.true at c.requires) c.put.ensures)

pub returns : goal.returns
unfolding kind_field
returns c =
    rw c.if-mbec.false (put_written c.args.out.now c.args.at _ (rw c.if-mbec.false at c.requires) c.put-2.ensures)
