-- `write_line` meets its contract: the line is written where it has room, and copied from there with its line feed. Assumes nothing.
use mathlib.Core.List.{List, [], ◌∷◌}
use mathlib.Core.Path.{◌≡◌, refl, sym, ap, ◌∙◌}
use Prim.Native.Nat.{ℕ, ◌+◌}
use native.Mathlib.Omega.{arith}
use lib.ListN.{length, replicate, set, take}
use Rattle.records.specs.RecordTexts.{ended}
use Rattle.script.proofs.Cells.{Written, written-length, written_next}
use Rattle.script.specs.ListingLine.{line_feed}
use Rattle.sheet.proofs.SheetLengths.{line-length, short-sheet}
use Rattle.sheet.proofs.TextPutting.{Begun, begun-written, taken_out}
use Rattle.sheet.specs.Sheets.{Explanation, longest_sheet, sheet_line, sheet_text}
use Rattle.sheet.proofs.write_line.Goals as goal

abbrev blank : List ℕ
blank = replicate longest_sheet 0

-- The line was written, and then its line feed.
module _ (e : Explanation) {end : ℕ} {line : List ℕ} (begun : Begun blank (sheet_line e) end line) where
  wrote : Written blank 0 (sheet_text e) (end + 1) (set line end line_feed)
  unfolding sheet_text ended
  wrote =
      written_next blank 0 (sheet_line e) (line_feed ∷ []) (begun-written blank (sheet_line e) begun) record { value = refl; out_after = refl }

  -- The text is what stands at its start.
  size : end + 1 ≡ length (sheet_text e)
  size = omega (arith, wrote.value)

  text : take (end + 1) (set line end line_feed) ≡ sheet_text e
  text = ap (take (end + 1)) wrote.out_after ∙ taken_out blank (sheet_text e) (end + 1) size (omega (arith, size, short-sheet e))

pub bounds-text-end : goal.bounds-text-end
bounds-text-end c = omega (arith, line-length c.args.explanation, c.write_sheet-end.ensures.value)

pub overflow_add-size : goal.overflow_add-size
overflow_add-size c = omega (arith, line-length c.args.explanation, c.write_sheet-end.ensures.value)

pub slice_bounds-text-end : goal.slice_bounds-text-end
slice_bounds-text-end c =
    let e = c.args.explanation in
    let w = c.write_sheet-end.ensures in
    omega (arith, size e w, short-sheet e, written-length blank 0 (sheet_text e) (wrote e w))

pub slice_bounds-put-end : goal.slice_bounds-put-end
slice_bounds-put-end c =
    let w = c.write_sheet-end.ensures in
    size c.args.explanation w ∙ sym (ap length (text c.args.explanation w))

pub returns : goal.returns
returns c = rw (text c.args.explanation c.write_sheet-end.ensures) at c.put.ensures
