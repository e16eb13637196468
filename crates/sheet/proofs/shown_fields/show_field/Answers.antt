-- `shown_fields::show_field` meets its contract: the field, and the line feed after it. Assumes nothing.
use mathlib.Core.List.{List, [], ◌∷◌, ◌++◌}
use mathlib.Core.Path.{refl}
use Prim.Native.Nat.{ℕ, ◌+◌, ◌≤◌}
use native.Mathlib.Omega.{arith}
use lib.ListN.{length}
use Rattle.script.proofs.Cells.{Written, written_next}
use Rattle.script.specs.ListingLine.{line_feed}
use Rattle.sheet.proofs.TextPutting.{Put, first-room, put_written, second-room}
use Rattle.sheet.proofs.shown_fields.show_field.Goals as goal

-- The field was written.
wrote : (out : List ℕ) (at : ℕ) (field : List ℕ) → at + length (field ++ line_feed ∷ []) ≤ length out → {after : ℕ} {last : List ℕ}
    → Put out at field after last → Written out at field after last
wrote out at field room p = put_written out at field (first-room out at field (line_feed ∷ []) room) p

pub bounds-out-end : goal.bounds-out-end
bounds-out-end c =
    let a = c.args in
    let w = wrote a.out.now a.at a.field.now c.requires c.put-end.ensures in
    omega (arith, second-room a.out.now a.at a.field.now (line_feed ∷ []) c.requires w)

pub overflow_add-result : goal.overflow_add-result
overflow_add-result c = omega (arith, bounds-out-end c)

pub returns : goal.returns
returns c =
    let a = c.args in
    let w = wrote a.out.now a.at a.field.now c.requires c.put-end.ensures in
    written_next a.out.now a.at a.field.now (line_feed ∷ []) w record { value = refl; out_after = refl }
