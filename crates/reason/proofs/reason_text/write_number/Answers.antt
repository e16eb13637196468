-- `reason_text::write_number` meets its contract: the tab, and the number after it. Assumes nothing.
use mathlib.Core.List.{List, [], ◌∷◌}
use mathlib.Core.Path.{refl}
use Prim.Native.Nat.{ℕ, ◌+◌, ◌≤◌}
use native.Mathlib.Omega.{arith}
use lib.ListN.{length, length-set, set}
use Rattle.decimal.specs.Write.{decimal}
use Rattle.script.proofs.Cells.{Written, written-length, written_next}
use Rattle.script.specs.LineForms.{tab}
use Rattle.sheet.proofs.TextPutting.{Put, put_written}
use Rattle.reason.proofs.reason_text.write_number.Goals as goal

-- The number was written after the tab.
wrote : (out : List ℕ) (at value : ℕ) → at + length (tab ∷ decimal value) ≤ length out → {after : ℕ} {last : List ℕ}
    → Put (set out at tab) (at + 1) (decimal value) after last → Written out at (tab ∷ decimal value) after last
wrote out at value room p =
    let more : at + 1 + length (decimal value) ≤ length (set out at tab) = omega (arith, length-set out at tab) in
    written_next out at (tab ∷ []) (decimal value) record { value = refl; out_after = refl }
    (put_written (set out at tab) (at + 1) (decimal value) more p)

pub shape_of-out : goal.shape_of-out
shape_of-out c =
    let a = c.args in
    written-length a.out.now a.at (tab ∷ decimal a.value) (wrote a.out.now a.at a.value c.requires c.write.ensures)

pub returns : goal.returns
returns c = wrote c.args.out.now c.args.at c.args.value c.requires c.write.ensures
