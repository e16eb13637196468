-- `record_text::write_cell` meets its contract: the number has room, and so has the byte after it. Assumes nothing.
use Prim.Native.Nat.{◌+◌, ◌≤◌}
use mathlib.Core.List.{[], ◌∷◌}
use mathlib.Core.Path.{refl, ◌∙◌}
use native.Mathlib.Omega.{arith}
use lib.ListN.{length}
use Rattle.decimal.proofs.TextRoom.{after-room, with-room}
use Rattle.decimal.specs.Write.{decimal}
use Rattle.script.proofs.Cells.{Written, cell-length, written-length, written_next}
use Rattle.script.specs.ListingLine.{cell}
use Rattle.transfer.proofs.record_text.write_cell.Goals as goal

pub bounds-out-end : goal.bounds-out-end
bounds-out-end c =
    let number : let a = c.args in Written a.out.now a.at (decimal a.value) c.write-end.result c.write-end.new.out = let a = c.args in
    let room : a.at + length (decimal a.value) ≤ length a.out.now = omega (arith, cell-length a.value a.closing, c.requires) in
    record { value = c.write-end.ensures.value ∙ after-room _ _ _ room; out_after = c.write-end.ensures.out_after ∙ with-room _ _ _ room } in
    let a = c.args in
    let w = number in
    omega (arith, w.value, written-length a.out.now a.at (decimal a.value) w, cell-length a.value a.closing, c.requires)

pub overflow_add-result : goal.overflow_add-result
overflow_add-result c =
    let number : let a = c.args in Written a.out.now a.at (decimal a.value) c.write-end.result c.write-end.new.out = let a = c.args in
    let room : a.at + length (decimal a.value) ≤ length a.out.now = omega (arith, cell-length a.value a.closing, c.requires) in
    record { value = c.write-end.ensures.value ∙ after-room _ _ _ room; out_after = c.write-end.ensures.out_after ∙ with-room _ _ _ room } in
    let a = c.args in
    omega (arith, (number).value, cell-length a.value a.closing, c.requires)

pub returns : goal.returns
unfolding cell
returns c =
    let number : let a = c.args in Written a.out.now a.at (decimal a.value) c.write-end.result c.write-end.new.out = let a = c.args in
    let room : a.at + length (decimal a.value) ≤ length a.out.now = omega (arith, cell-length a.value a.closing, c.requires) in
    record { value = c.write-end.ensures.value ∙ after-room _ _ _ room; out_after = c.write-end.ensures.out_after ∙ with-room _ _ _ room } in
    let a = c.args in
    written_next a.out.now a.at (decimal a.value) (a.closing ∷ []) (number) record { value = refl; out_after = refl }
