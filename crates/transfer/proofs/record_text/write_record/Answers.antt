-- `record_text::write_record` meets its contract: word and indices, and the number after them. Assumes nothing.
use Rattle.records.specs.RecordTexts.{front}
use Rattle.script.proofs.Cells.{written_next}
use Rattle.script.specs.ListingLine.{cell, line_feed}
use Rattle.transfer.specs.Sent.{record_text}
use Rattle.transfer.proofs.Stores.{first-room, second-room}
use Rattle.transfer.proofs.record_text.write_record.Goals as goal

pub write_front-end-requires : goal.write_front-end-requires
unfolding record_text
write_front-end-requires c =
    let a = c.args in
    first-room a.out.now a.at (front a.place) (cell a.value line_feed) c.requires

pub write_cell-requires : goal.write_cell-requires
unfolding record_text
write_cell-requires c =
    let a = c.args in
    second-room a.out.now a.at (front a.place) (cell a.value line_feed) c.requires c.write_front-end.ensures

pub returns : goal.returns
unfolding record_text
returns c =
    let a = c.args in
    written_next a.out.now a.at (front a.place) (cell a.value line_feed) c.write_front-end.ensures c.write_cell.ensures
