-- `record_text::write_front` meets its contract: the word with its tab, and then the indices. Assumes nothing.
use Rattle.records.proofs.ClosedNumbers.{front-parts}
use Rattle.transfer.proofs.record_text.write_front.Goals as goal

pub write_head-requires : goal.write_head-requires
write_head-requires c =
    rw (c.word_of.ensures, c.as_slice.ensures, c.indices_of.ensures) (rw (front-parts c.args.place) c.requires)

pub returns : goal.returns
returns c =
    rw (c.word_of.ensures, c.as_slice.ensures, c.indices_of.ensures, front-parts c.args.place) at c.write_head.ensures
