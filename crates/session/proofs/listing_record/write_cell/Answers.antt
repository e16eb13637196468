-- `session::listing_record::write_cell` meets its contract: the number has room, and so has the byte after it. Assumes nothing.
use Rattle.std.proofs.Common.{◌+◌, ◌≤◌, [], ◌∷◌, length, refl, ◌∙◌, add-one, arith, length-set}
use Rattle.decimal.proofs.Digits.{only-digit}
use Rattle.decimal.proofs.TextRoom.{after-room, with-room}
use Rattle.decimal.specs.Write.{decimal}
use Rattle.script.proofs.Cells.{Written, cell-length, written-length, written_next}
use Rattle.script.specs.ListingLine.{cell}
use Rattle.session.proofs.Numbering.{cell-size}
use Rattle.session.proofs.listing_record.write_cell.Goals as goal

pub bounds-out-at : goal.bounds-out-at
bounds-out-at c = let a = c.args in omega (arith, cell-size a.value a.closing, c.requires)

pub bounds-out-at-then-value-lt10 : goal.bounds-out-at-then-value-lt10
bounds-out-at-then-value-lt10 c =
    let a = c.args in
    simp length-set (omega (arith, cell-size a.value a.closing, c.requires))

pub returns-then-value-lt10 : goal.returns-then-value-lt10
unfolding cell
returns-then-value-lt10 c = let a = c.args in rw (only-digit a.value c.if-value-lt10.true, add-one a.at) record { value = omega arith; out_after = refl }

pub bounds-out-end : goal.bounds-out-end
bounds-out-end c =
    let number : let a = c.args in Written a.out.now a.at (decimal a.value) c.write-end.result c.write-end.new.out = let a = c.args in
    let room : a.at + length (decimal a.value) ≤ length a.out.now = omega (arith, cell-length a.value a.closing, c.requires) in
    record { value = c.write-end.ensures.value ∙ after-room _ _ _ room; out_after = c.write-end.ensures.out_after ∙ with-room _ _ _ room } in
    let a = c.args in
    let w = number in
    omega (arith, w.value, written-length a.out.now a.at (decimal a.value) w, cell-length a.value a.closing, c.requires)

pub overflow_add-result-2 : goal.overflow_add-result-2
overflow_add-result-2 c =
    let number : let a = c.args in Written a.out.now a.at (decimal a.value) c.write-end.result c.write-end.new.out = let a = c.args in
    let room : a.at + length (decimal a.value) ≤ length a.out.now = omega (arith, cell-length a.value a.closing, c.requires) in
    record { value = c.write-end.ensures.value ∙ after-room _ _ _ room; out_after = c.write-end.ensures.out_after ∙ with-room _ _ _ room } in
    let a = c.args in
    omega (arith, (number).value, cell-length a.value a.closing, c.requires)

pub returns : goal.returns
unfolding cell
returns c =
    let number : let a = c.args in Written a.out.now a.at (decimal a.value) c.write-end.result c.write-end.new.out = let a = c.args in
    let room : a.at + length (decimal a.value) ≤ length a.out.now = omega (arith, cell-length a.value a.closing, c.requires) in
    record { value = c.write-end.ensures.value ∙ after-room _ _ _ room; out_after = c.write-end.ensures.out_after ∙ with-room _ _ _ room } in
    let a = c.args in
    written_next a.out.now a.at (decimal a.value) (a.closing ∷ []) (number) record { value = refl; out_after = refl }
