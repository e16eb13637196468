-- `inquiry::write_with` meets its contract: by what follows the access line. Assumes nothing.
use Prim.Native.Nat.{◌-◌, ◌≤◌}
use borrow.Rule.Slice.PartMut.{mid_of}
use native.Mathlib.Omega.{arith}
use lib.ListN.{length}
use Rattle.chunk.proofs.ChunkLines.{end-within}
use Rattle.sheet.proofs.SheetLengths.{short-sheet}
use Rattle.sheet.proofs.VerdictLaws.{short-verdict}
use Rattle.sheet.specs.Sheets.{sheet_text}
use Rattle.inquiry.proofs.InquiryTexts.{wrote-room}
use Rattle.inquiry.proofs.Inquiries.{with-more, with_none, with-one}
use Rattle.inquiry.proofs.write_with.Goals as goal

pub returns-then-input-from : goal.returns-then-input-from
returns-then-input-from c =
    let a = c.args in
    rw (with_none a.explanation a.input.now a.from c.if-input-from.true)
    (wrote-room (sheet_text a.explanation) a.out.now (omega (arith, short-sheet a.explanation, c.write_line-arg-1.given)) c.write_line.ensures.value c.write_line.ensures.out_after)

pub overflow_add-end : goal.overflow_add-end
overflow_add-end c =
    let ends : let a = c.args in (a.from ≤ c.line_end-end.result) × (c.line_end-end.result ≤ length a.input.now) = let a = c.args in
    rw c.line_end-end.ensures (end-within a.input.now a.from (omega (arith, c.if-input-from.false))) in
    omega (arith, ends, c.well_formed)

pub returns-then-end-input : goal.returns-then-end-input
returns-then-end-input c =
    let a = c.args in
    rw (with-more a.explanation a.input.now a.from c.line_end-end.result c.line_end-end.ensures (omega (arith, c.if-input-from.false)) c.if-end-input.true)
    c.refuse.ensures

pub slice_bounds-write_verdict-end-2 : goal.slice_bounds-write_verdict-end-2
slice_bounds-write_verdict-end-2 c =
    let ends : let a = c.args in (a.from ≤ c.line_end-end.result) × (c.line_end-end.result ≤ length a.input.now) = let a = c.args in
    rw c.line_end-end.ensures (end-within a.input.now a.from (omega (arith, c.if-input-from.false))) in
    omega (arith, ends)

pub returns : goal.returns
returns c =
    let a = c.args in
    rw (with-one a.explanation a.input.now a.from c.line_end-end.result c.line_end-end.ensures (omega (arith, c.if-input-from.false)) (omega (arith, c.if-end-input.false)))
    (wrote-room _ a.out.now (omega (arith, short-verdict a.explanation (mid_of a.from (c.line_end-end.result - a.from) a.input.now), c.write_verdict-arg-1.given)) c.write_verdict.ensures.value c.write_verdict.ensures.out_after)
