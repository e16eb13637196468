-- `is_right` meets its contract: the sheet is compared with the bytes of the line. Assumes nothing.
use mathlib.Core.List.{List}
use mathlib.Core.Path.{◌≡◌, sym, ap, ◌∙◌}
use Prim.Native.Nat.{ℕ, ◌≤◌}
use native.Mathlib.Omega.{arith}
use lib.ListN.{length, replicate, take}
use lib.Seq.{length-sets}
use Rattle.script.specs.Bytes.{same}
use Rattle.sheet.proofs.SheetLengths.{line-length}
use Rattle.sheet.proofs.TextPutting.{Begun, taken_out}
use Rattle.sheet.proofs.VerdictLaws.{same-by-bytes}
use Rattle.sheet.proofs.WordBytes.{same-by}
use Rattle.sheet.specs.Sheets.{Explanation, longest_sheet, sheet_line}
use Rattle.sheet.proofs.is_right.Goals as goal

abbrev blank : List ℕ
blank = replicate longest_sheet 0

-- The line is what stands at the start of the buffer.
module _ (e : Explanation) {size : ℕ} {line : List ℕ} (begun : Begun blank (sheet_line e) size line) where
  inside : size ≤ length line
  inside = omega (arith, begun.value, line-length e, ap length begun.out_after, length-sets blank 0 (sheet_line e))

  text : take size line ≡ sheet_line e
  text = ap (take size) begun.out_after ∙ taken_out blank (sheet_line e) size begun.value (omega (arith, begun.value, line-length e))

pub slice_bounds-text-end : goal.slice_bounds-text-end
slice_bounds-text-end c = inside c.args.explanation c.write_sheet-size.ensures

pub slice_bounds-eq-end : goal.slice_bounds-eq-end
slice_bounds-eq-end c =
    let w = c.write_sheet-size.ensures in
    w.value ∙ sym (ap length (text c.args.explanation w))

pub returns : goal.returns
returns c =
    let a = c.args in
    sym (same-by a.sheet.now _ c.eq.ensures) ∙ ap (same a.sheet.now) (text a.explanation c.write_sheet-size.ensures) ∙ sym (same-by-bytes a.explanation a.sheet.now)
