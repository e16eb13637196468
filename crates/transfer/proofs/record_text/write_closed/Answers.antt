-- `record_text::write_closed` meets its contract: the first numbers are written, each with its tab. Assumes nothing.
use mathlib.Core.Path.{refl}
use native.Mathlib.Omega.{arith}
use lib.ListN.{get_or, take}
use lib.Seq.{take_all}
use Rattle.records.specs.RecordTexts.{closed}
use Rattle.script.proofs.Cells.{written-length, written_next}
use Rattle.script.specs.LineForms.{tab}
use Rattle.script.specs.ListingLine.{cell}
use Rattle.records.proofs.ClosedNumbers.{closed-step}
use Rattle.transfer.proofs.Stores.{closed-room}
use Rattle.transfer.proofs.record_text.write_closed.Goals as goal

pub loop-number-init : goal.loop-number-init
unfolding closed
loop-number-init c = record { value = omega arith; out_after = refl }

-- The next number has room.
pub write_cell-end-requires : goal.write_cell-end-requires
write_cell-end-requires c =
    let a = c.args in
    let w = c.loop-number.invariant in
    omega (
      arith,
      w.value,
      written-length a.out.now a.at (closed (take c.loop-number.number-index a.numbers.now)) w,
      closed-room a.numbers.now c.loop-number.number-index c.loop-number-test.true,
      c.requires,
    )

pub loop-number-preserved : goal.loop-number-preserved
loop-number-preserved c =
    let a = c.args in
    let ns = a.numbers.now in
    let i = c.loop-number.number-index in
    rw (closed-step ns i c.loop-number-test.true) at
    (written_next a.out.now a.at (closed (take i ns)) (cell (get_or ns i 0) tab) c.loop-number.invariant c.write_cell-end.ensures)

pub shape_of-out : goal.shape_of-out
shape_of-out c =
    let a = c.args in
    written-length a.out.now a.at (closed (take c.loop-number.number-index a.numbers.now)) c.loop-number.invariant

pub returns : goal.returns
returns c =
    let all = take_all c.loop-number.number-index c.args.numbers.now c.loop-number-test.false in
    rw all at c.loop-number.invariant
