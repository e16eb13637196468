-- `record_text::write_head` meets its contract: the word, and the numbers after it. Assumes nothing.
use Rattle.records.specs.RecordTexts.{closed}
use Rattle.script.proofs.Cells.{written_next}
use Rattle.transfer.proofs.Stores.{first-room, second-room}
use Rattle.transfer.proofs.record_text.write_head.Goals as goal

pub put-end-requires : goal.put-end-requires
put-end-requires c =
    let a = c.args in
    first-room a.out.now a.at a.word.now (closed a.indices.now) c.requires

pub write_closed-requires : goal.write_closed-requires
write_closed-requires c =
    let a = c.args in
    second-room a.out.now a.at a.word.now (closed a.indices.now) c.requires c.put-end.ensures

pub returns : goal.returns
returns c =
    let a = c.args in
    written_next a.out.now a.at a.word.now (closed a.indices.now) c.put-end.ensures c.write_closed.ensures
