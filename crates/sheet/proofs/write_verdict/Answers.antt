-- `write_verdict` meets its contract: the refusal, nothing where there is no room, or the first line and the fields. Assumes nothing.
use mathlib.Core.Bool.{Bool}
use mathlib.Core.List.{List, [], ◌∷◌, ◌++◌}
use mathlib.Core.Path.{sym, ◌∙◌}
use Prim.Native.Nat.{ℕ, ◌+◌, ◌≤◌}
use native.Mathlib.Omega.{arith}
use lib.ListN.{length, length-append}
use Rattle.decimal.proofs.TextRoom.{after-no-room, with-no-room}
use Rattle.records.specs.RecordTexts.{ended}
use Rattle.script.proofs.Cells.{written_next}
use Rattle.script.specs.LineForms.{fields}
use Rattle.sheet.proofs.FieldShowing.{shown-length}
use Rattle.sheet.proofs.TextPutting.{begun-written, second-room, written-put}
use Rattle.sheet.proofs.VerdictLaws.{mark-length, verdict-length, verdict-refused, verdict-shown}
use Rattle.sheet.specs.Verdicts.{mark, verdict}
use Rattle.sheet.proofs.write_verdict.Goals as goal

pub returns-then-not-good_form : goal.returns-then-not-good_form
returns-then-not-good_form c =
    let a = c.args in
    rw (verdict-refused a.explanation a.sheet.now (sym c.good_form.ensures ∙ c.if-not-good_form.true)) c.write_refusal.ensures

pub returns-then-out-sheet : goal.returns-then-out-sheet
returns-then-out-sheet c =
    let a = c.args in
    let size = verdict-length a.explanation a.sheet.now (sym c.good_form.ensures ∙ c.if-not-good_form.false) in record {
      value = sym (after-no-room a.out.now 0 (verdict a.explanation a.sheet.now) (omega (arith, size, c.if-out-sheet.true)));
      out_after = sym (with-no-room a.out.now 0 (verdict a.explanation a.sheet.now) (omega (arith, size, c.if-out-sheet.true)));
    }

-- It has room: the first line, and the fields.
room : (out sheet : List ℕ) (right : Bool) → 4 + length sheet + 1 ≤ length out
    → 0 + length (ended (mark right ∷ []) ++ ended (fields sheet)) ≤ length out
room out sheet right h =
    omega (arith, length-append (ended (mark right ∷ [])) (ended (fields sheet)), mark-length right, shown-length sheet)

pub write_mark-end-requires : goal.write_mark-end-requires
write_mark-end-requires c = omega (arith, mark-length c.is_right.result, c.if-out-sheet.false)

pub show_fields-requires : goal.show_fields-requires
show_fields-requires c =
    let a = c.args in
    let line = ended (mark c.is_right.result ∷ []) in
    second-room a.out.now 0 line (ended (fields a.sheet.now)) (room a.out.now a.sheet.now c.is_right.result c.if-out-sheet.false)
    (begun-written a.out.now line c.write_mark-end.ensures)

pub returns : goal.returns
returns c =
    let a = c.args in
    let line = ended (mark c.is_right.result ∷ []) in
    let parts = ended (fields a.sheet.now) in
    rw (verdict-shown a.explanation a.sheet.now (sym c.good_form.ensures ∙ c.if-not-good_form.false) c.is_right.ensures)
    (written-put a.out.now 0 (line ++ parts) (room a.out.now a.sheet.now c.is_right.result c.if-out-sheet.false)
    (written_next a.out.now 0 line parts (begun-written a.out.now line c.write_mark-end.ensures) c.show_fields.ensures))
