-- `sheet_form::pass_part` meets its contract: no field, or one that is tested. Assumes nothing.
use native.Mathlib.Omega.{arith}
use Rattle.script.proofs.FieldPlaces.{end-within}
use Prim.Native.Nat.{◌+◌}
use Rattle.script.specs.LineForms.{tab}
use Rattle.sheet.proofs.FieldPassing.{no_more, tested-field}
use Rattle.sheet.specs.PassedFields.{is_part}
use Rattle.sheet.proofs.sheet_form.pass_part.Goals as goal

pub returns-then-sheet-at : goal.returns-then-sheet-at
returns-then-sheet-at c = no_more (is_part c.args.last) _ _ c.if-sheet-at.true

pub slice_bounds-is_part-end : goal.slice_bounds-is_part-end
slice_bounds-is_part-end c =
    let a = c.args in
    omega (arith, c.find_byte-end.ensures, end-within tab a.sheet.now (a.at + 1) (omega (arith, c.if-sheet-at.false)))

pub returns : goal.returns
returns c =
    let a = c.args in
    tested-field (is_part a.last) a.sheet.now a.at c.find_byte-end.result c.if-sheet-at.false c.find_byte-end.ensures c.is_part.ensures
    c.then_some.ensures
