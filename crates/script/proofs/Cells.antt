-- Laws of a line of the listing: how long it is, and how it is written cell by cell.
-- Assumes nothing.
use Prim.Native.Nat.{ℕ, ◌+◌, ◌≤◌}
use mathlib.Core.List.{List, [], ◌∷◌, ◌++◌}
use mathlib.Core.Path.{◌≡◌, ap, ◌∙◌}
use native.Mathlib.Omega.{arith}
use lib.ListN.{length, length-append}
use lib.Seq.{length-sets, sets}
use Rattle.decimal.proofs.Digits.{text-length}
use Rattle.decimal.specs.Write.{decimal}
use Rattle.script.specs.LineForms.{tab}
use Rattle.script.specs.ListingLine.{cell, line_feed, listing_line}
use Rattle.script.proofs.StoredTexts.{sets-append}

-- A cell has one byte more than its number has digits.
pub cell-length : (n closing : ℕ) → length (cell n closing) ≡ length (decimal n) + 1
unfolding cell
cell-length n closing = length-append (decimal n) (closing ∷ [])

-- A line has four cells.
pub line-length : (number answer value level : ℕ)
    → length (listing_line number answer value level)
    ≡ length (cell number tab) + length (cell answer tab) + length (cell value tab) + length (cell level line_feed)
unfolding listing_line
line-length number answer value level = simp length-append

-- A line of the listing has at most 84 bytes.
pub line-at-most : (number answer value level : ℕ) → length (listing_line number answer value level) ≤ 84
line-at-most number answer value level =
    omega (
      arith,
      line-length number answer value level,
      cell-length number tab,
      cell-length answer tab,
      cell-length value tab,
      cell-length level line_feed,
      text-length number,
      text-length answer,
      text-length value,
      text-length level,
    )

-- A text was written into a buffer from a place on: the place after it, and the buffer then.
abbrev pub Written : List ℕ → ℕ → List ℕ → ℕ → List ℕ → Type 0
Written buffer at text after out = record { value : after ≡ at + length text; out_after : out ≡ sets buffer at text }

-- The buffer is as long as before.
pub written-length : (buffer : List ℕ) (at : ℕ) (text : List ℕ) {after : ℕ} {out : List ℕ} → Written buffer at text after out
    → length out ≡ length buffer
written-length buffer at text w = ap length w.out_after ∙ length-sets buffer at text

-- Another text was written after it.
pub written_next : (buffer : List ℕ) (at : ℕ) (text next : List ℕ) {after end : ℕ} {out last : List ℕ} → Written buffer at text after out
    → Written out after next end last → Written buffer at (text ++ next) end last
written_next buffer at text next w v = record {
  value = omega (arith, w.value, v.value, length-append text next);
  out_after = v.out_after ∙ rw (w.out_after, w.value) (sets-append text buffer at next);
}
