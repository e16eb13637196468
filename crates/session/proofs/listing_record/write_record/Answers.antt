-- `session::listing_record::write_record` meets its contract: four cells are written one after another, and those after the line number
-- cover what was stored beyond it. Assumes nothing.
use Rattle.std.proofs.Common.{◌≡◌, ℕ, ◌+◌, List, ◌++◌, length, ap, ◌∙◌, append_assoc, arith, length-append}
use lib.Seq.{sets}
use Rattle.script.proofs.Cells.{line-length, written-length, written_next}
use Rattle.script.specs.LineForms.{tab}
use Rattle.script.specs.ListingLine.{cell, line_feed, listing_line}
use Rattle.session.proofs.Numbering.{cell-size}
use Rattle.session.proofs.listing_record.write_record.Goals as goal

pub write_cell-after_answer-requires : goal.write_cell-after_answer-requires
write_cell-after_answer-requires c =
    let a = c.args in
    let n = c.write_number-after_number.ensures in
    omega (arith, n.value, n.ahead.size, c.requires.longest_record_in_bounds, cell-size a.line.number tab, cell-size a.shown.answer tab)

pub write_cell-after_value-requires : goal.write_cell-after_value-requires
write_cell-after_value-requires c =
    let a = c.args in
    let number = c.write_number-after_number in
    let n = number.ensures in
    let w = c.write_cell-after_answer.ensures in
    omega (
      arith,
      n.value,
      n.ahead.size,
      w.value,
      written-length number.new.out number.result (cell a.shown.answer tab) w,
      c.requires.longest_record_in_bounds,
      cell-size a.line.number tab,
      cell-size a.shown.answer tab,
      cell-size a.shown.value tab,
    )

pub write_cell-requires : goal.write_cell-requires
write_cell-requires c =
    let a = c.args in
    let number = c.write_number-after_number in
    let n = number.ensures in
    let answer = c.write_cell-after_answer in
    let w = answer.ensures in
    let v = c.write_cell-after_value.ensures in
    omega (
      arith,
      n.value,
      n.ahead.size,
      w.value,
      written-length number.new.out number.result (cell a.shown.answer tab) w,
      v.value,
      written-length answer.new.out answer.result (cell a.shown.value tab) v,
      c.requires.longest_record_in_bounds,
      cell-size a.line.number tab,
      cell-size a.shown.answer tab,
      cell-size a.shown.value tab,
      cell-size a.shown.level.0 line_feed,
    )

pub returns : goal.returns
unfolding listing_line
returns c =
    let a = c.args in
    let number = c.write_number-after_number in
    let n = number.ensures in
    let first = cell a.line.number tab in
    let second = cell a.shown.answer tab in
    let third = cell a.shown.value tab in
    let fourth = cell a.shown.level.0 line_feed in
    let more = (second ++ third) ++ fourth in
    let w = written_next number.new.out number.result (second ++ third) fourth
    (written_next number.new.out number.result second third c.write_cell-after_answer.ensures c.write_cell-after_value.ensures)
    c.write_cell.ensures in
    let text : first ++ more ≡ listing_line a.line.number a.shown.answer a.shown.value a.shown.level.0 = simp append_assoc in
    let size : length more ≡ length second + length third + length fourth = simp length-append in record {
      value = omega (arith, w.value, n.value, size, line-length a.line.number a.shown.answer a.shown.value a.shown.level.0);
      out_after = w.out_after
          ∙ ap (λ (k : ℕ). sets number.new.out k more) n.value
          ∙ n.ahead.ahead more (omega (arith, size, cell-size a.shown.answer tab, cell-size a.shown.value tab, cell-size a.shown.level.0 line_feed))
          ∙ ap (λ (t : List ℕ). sets a.out.now a.at t) text;
    }
