-- `reason_text::write_sheet` meets its contract: the tab, and the sheet's text after it. Assumes nothing.
use mathlib.Core.List.{List, [], ◌∷◌}
use mathlib.Core.Path.{◌≡◌, refl, sym, ap, ◌∙◌}
use Prim.Native.Nat.{ℕ, ◌+◌, ◌≤◌}
use native.Mathlib.Omega.{arith}
use lib.ListN.{length, length-set, replicate, set, take}
use Rattle.script.proofs.Cells.{Written, written-length, written_next}
use Rattle.script.specs.LineForms.{tab}
use Rattle.sheet.proofs.SheetLengths.{short-sheet}
use Rattle.sheet.proofs.TextPutting.{Begun, Put, put-start, put_written, taken_out}
use Rattle.sheet.specs.Sheets.{Explanation, longest_sheet, sheet_text}
use Rattle.reason.specs.Reasons.{longest_reason}
use Rattle.reason.proofs.reason_text.write_sheet.Goals as goal

abbrev blank : List ℕ
blank = replicate longest_sheet 0

-- The sheet's text is what stands at the start of the buffer.
module _ (e : Explanation) {size : ℕ} {line : List ℕ} (put : Put blank 0 (sheet_text e) size line) where
  begun : Begun blank (sheet_text e) size line
  begun = put-start blank (sheet_text e) (short-sheet e) put

  text : take size line ≡ sheet_text e
  text = ap (take size) begun.out_after ∙ taken_out blank (sheet_text e) size begun.value (omega (arith, begun.value, short-sheet e))

-- It was written after the tab.
wrote : (out : List ℕ) (at : ℕ) (e : Explanation) → at + longest_reason ≤ length out → {part : List ℕ} → part ≡ sheet_text e
    → {after : ℕ} {last : List ℕ} → Put (set out at tab) (at + 1) part after last → Written out at (tab ∷ sheet_text e) after last
wrote out at e room is p =
    let more : at + 1 + length (sheet_text e) ≤ length (set out at tab) = omega (arith, length-set out at tab, short-sheet e) in
    written_next out at (tab ∷ []) (sheet_text e) record { value = refl; out_after = refl }
    (put_written (set out at tab) (at + 1) (sheet_text e) more (rw is at p))

pub slice_bounds-text-end : goal.slice_bounds-text-end
slice_bounds-text-end c =
    let e = c.args.explanation in
    omega (arith, (begun e c.write_line-size.ensures).value, short-sheet e, c.write_line-size.auto)

pub slice_bounds-put-end : goal.slice_bounds-put-end
slice_bounds-put-end c =
    let e = c.args.explanation in
    let p = c.write_line-size.ensures in
    (begun e p).value ∙ sym (ap length (text e p))

pub shape_of-out : goal.shape_of-out
shape_of-out c =
    let a = c.args in
    written-length a.out.now a.at (tab ∷ sheet_text a.explanation)
    (wrote a.out.now a.at a.explanation c.requires (text a.explanation c.write_line-size.ensures) c.put.ensures)

pub returns : goal.returns
returns c =
    let a = c.args in
    wrote a.out.now a.at a.explanation c.requires (text a.explanation c.write_line-size.ensures) c.put.ensures
