-- `record_text::write_first` meets its contract: five numbers with a tab after them, and the last. Assumes nothing.
use mathlib.Core.List.{◌∷◌, ◌++◌, List}
use mathlib.Core.Path.{ap, ◌∙◌}
use Prim.Native.Nat.{ℕ, ◌+◌, ◌≤◌}
use native.Mathlib.Omega.{arith}
use lib.ListN.{length}
use lib.Seq.{sets}
use Rattle.records.specs.RecordTexts.{closed}
use Rattle.records.specs.Values.{number}
use Rattle.script.proofs.Cells.{Written, written_next}
use Rattle.script.specs.Bytes.{bytes}
use Rattle.script.specs.LineForms.{tab}
use Rattle.script.specs.ListingLine.{cell, line_feed}
use Rattle.transfer.proofs.Left.{first-is, first_numbers}
use Rattle.transfer.proofs.Stores.{first-room, second-room}
use Rattle.transfer.proofs.record_text.write_first.Goals as goal

pub write_head-end-requires : goal.write_head-end-requires
write_head-end-requires c =
    let front : List ℕ = bytes "vsm" ++ tab ∷ closed (first_numbers c.args.setup) in
    let last : List ℕ = cell (number c.args.setup.shape.smep) line_feed in
    let room : 0 + length (front ++ last) ≤ length c.args.out.now = omega (arith, ap length (first-is c.args.setup), c.requires) in
    rw c.one_if.ensures (first-room c.args.out.now 0 (front) (last) (room))

pub write_cell-requires : goal.write_cell-requires
write_cell-requires c =
    let front : List ℕ = bytes "vsm" ++ tab ∷ closed (first_numbers c.args.setup) in
    let last : List ℕ = cell (number c.args.setup.shape.smep) line_feed in
    let room : 0 + length (front ++ last) ≤ length c.args.out.now = omega (arith, ap length (first-is c.args.setup), c.requires) in
    let wrote : Written c.args.out.now 0 (front) c.write_head-end.result c.write_head-end.new.out = rw c.one_if.ensures at c.write_head-end.ensures in
    rw c.one_if-2.ensures (second-room c.args.out.now 0 (front) (last) (room) (wrote))

pub returns : goal.returns
returns c =
    let front : List ℕ = bytes "vsm" ++ tab ∷ closed (first_numbers c.args.setup) in
    let last : List ℕ = cell (number c.args.setup.shape.smep) line_feed in
    let wrote : Written c.args.out.now 0 (front) c.write_head-end.result c.write_head-end.new.out = rw c.one_if.ensures at c.write_head-end.ensures in
    let all = written_next c.args.out.now 0 (front) (last) (wrote) (rw c.one_if-2.ensures at c.write_cell.ensures) in
    record { value = omega (arith, all.value, ap length (first-is c.args.setup)); out_after = all.out_after ∙ ap (sets c.args.out.now 0) (first-is c.args.setup) }
