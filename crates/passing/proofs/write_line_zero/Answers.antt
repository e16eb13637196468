-- `passing::write_line_zero` meets its contract: the bytes are those of the record. Assumes nothing.
use Rattle.decimal.specs.Write.{digits_before, digits_in}
use Rattle.script.specs.ListingLine.{cell, listing_line}
use Rattle.passing.proofs.write_line_zero.Goals as goal

pub returns-then-done : goal.returns-then-done
unfolding listing_line cell digits_before digits_in
returns-then-done c = rw c.if-done.true c.put_line.ensures

pub returns : goal.returns
unfolding listing_line cell digits_before digits_in
returns c = rw c.if-done.false c.put_line-2.ensures
