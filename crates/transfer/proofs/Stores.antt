-- Laws of texts that are written into a buffer one after the other. Assumes nothing.
use mathlib.Core.List.{List, [], ◌∷◌, ◌++◌}
use Prim.Native.Nat.{ℕ, zero, suc, ◌+◌, ◌≤◌, ◌<◌}
use native.Mathlib.Omega.{arith}
use lib.ListN.{length, length-append, get_or, take}
use Rattle.records.specs.RecordTexts.{closed}
use Rattle.script.proofs.Cells.{Written, written-length}
use Rattle.script.specs.LineForms.{tab}
use Rattle.script.specs.ListingLine.{cell}

-- One number more with its tab has room where all have.
pub closed-room : (numbers : List ℕ) (i : ℕ) → i < length numbers
    → length (closed (take i numbers)) + length (cell (get_or numbers i 0) tab) ≤ length (closed numbers)
unfolding closed
closed-room [] i h = absurd (omega arith)
closed-room (n ∷ numbers) zero h = omega (arith, length-append (cell n tab) (closed numbers))
closed-room (n ∷ numbers) (suc i) h =
    omega (arith, length-append (cell n tab) (closed numbers), length-append (cell n tab) (closed (take i numbers)), closed-room numbers i (omega arith))

-- Room for two texts is room for the first, and for the second once the first is written.
pub first-room : (out : List ℕ) (at : ℕ) (a b : List ℕ) → at + length (a ++ b) ≤ length out → at + length a ≤ length out
first-room out at a b h = omega (arith, length-append a b)

pub second-room : (out : List ℕ) (at : ℕ) (a b : List ℕ) {after : ℕ} {last : List ℕ} → at + length (a ++ b) ≤ length out
    → Written out at a after last → after + length b ≤ length last
second-room out at a b h w = omega (arith, length-append a b, w.value, written-length out at a w)
