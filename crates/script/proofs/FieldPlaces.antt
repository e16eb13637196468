-- Laws of places: where a byte next stands, where a field ends, and which fields come after it.
-- Assumes nothing.
use Rattle.std.specs.Prelude.{Some}
use Rattle.std.specs.Slice.{IsItemAt}
use denote.Ref.{Bor}
use Prim.Native.Nat.{ℕ, suc, ◌+◌, ◌-◌, ◌≤◌, ◌<◌}
use mathlib.Core.Bool.{Bool, true, false, cond}
use mathlib.Core.List.{List, [], ◌∷◌}
use mathlib.Core.Path.{◌≡◌, refl, ap, ◌∙◌}
use borrow.Author.Tests.{eq-eqb, ne_eqb}
use native.Mathlib.Nat.{add-zero}
use native.Mathlib.Numerals.{add-one}
use native.Mathlib.Omega.{arith}
use lib.Dec.{eqb}
use lib.ListN.{drop, drop_of_length-le, get_or, length, length-drop, take}
use lib.Seq.{drop-cons, drop-drop}
use Rattle.script.specs.LineForms.{fields, in_front, tab}
use Rattle.script.specs.NumberRows.{after_tab, field_end, fields_after, until_tab}
use Rattle.script.specs.Search.{byte_at, until_byte}

-- A byte that was read at a place of a line.
pub item-read : (line : List ℕ) (i : ℕ) (x : Bor ℕ) → IsItemAt line i (Some x) → (i < length line) × (x.now ≡ get_or line i 0)
item-read line i x h = (h.3.0, h.4 (omega arith) 0)

-- Where a byte next stands, from a place on: at this place, past another byte, and at the end.
module _ (byte : ℕ) (bytes : List ℕ) (i : ℕ) where
  pub at_byte : i < length bytes → get_or bytes i 0 ≡ byte → byte_at byte bytes i ≡ i
  unfolding until_byte
  at_byte h e = rw (drop-cons bytes i 0 h, eq-eqb _ byte e) (add-zero i)

  pub past-byte : i < length bytes → (get_or bytes i 0 ≡ byte → ⊥) → byte_at byte bytes i ≡ byte_at byte bytes (i + 1)
  unfolding until_byte
  past-byte h e = rw (drop-cons bytes i 0 h, ne_eqb _ byte e, add-one i) (omega arith)

  pub at-end : length bytes ≤ i → byte_at byte bytes i ≡ i
  unfolding until_byte
  at-end h = rw (drop_of_length-le bytes h) (add-zero i)

pub past_next : (byte : ℕ) (bytes : List ℕ) (i j : ℕ) → j ≡ i + 1 → i < length bytes → (get_or bytes i 0 ≡ byte → ⊥)
    → byte_at byte bytes i ≡ byte_at byte bytes j
past_next byte bytes i j e h d = rw e (past-byte byte bytes i h d)

pub until-within : (byte : ℕ) (bytes : List ℕ) → until_byte byte bytes ≤ length bytes
unfolding until_byte
until-within byte [] = omega arith
until-within byte (first ∷ bytes) = go (eqb first byte) (until-within byte bytes)
  where
    go : (t : Bool) → until_byte byte bytes ≤ length bytes → cond t 0 (suc (until_byte byte bytes)) ≤ suc (length bytes)
    go true h = omega arith
    go false h = omega arith

-- It stands within the bytes, or at their end.
pub end-within : (byte : ℕ) (bytes : List ℕ) (start : ℕ) → start ≤ length bytes → (start ≤ byte_at byte bytes start) × (byte_at byte bytes start ≤ length bytes)
end-within byte bytes start h = omega (arith, until-within byte (drop start bytes), length-drop start bytes)

-- The fields of a line are its first field and those after it.
pub fields-first : (line : List ℕ) → fields line ≡ take (until_tab line) line ∷ fields_after line (until_tab line)
unfolding fields until_byte
fields-first [] = refl
fields-first (byte ∷ line) = go (eqb byte tab) (fields-first line)
  where
    go : (t : Bool) → fields line ≡ take (until_tab line) line ∷ fields_after line (until_tab line)
        → cond t ([] ∷ fields line) (in_front byte (fields line))
        ≡ take (cond t 0 (suc (until_tab line))) (byte ∷ line) ∷ fields_after (byte ∷ line) (cond t 0 (suc (until_tab line)))
    go true h = refl
    go false h = rw h

-- The field after a tab, which ends at `end`, and the fields after it.
pub next_field : (line : List ℕ) (at end : ℕ) → at < length line → end ≡ field_end line (at + 1)
    → fields_after line at ≡ take (end - (at + 1)) (drop (at + 1) line) ∷ fields_after line end
next_field line at end h e =
    let until : until_tab (drop (at + 1) line) ≡ end - (at + 1) = omega arith in
    let place : at + 1 + (end - (at + 1)) ≡ end = omega arith in
    ap after_tab (drop-cons line at 0 h)
    ∙ rw (← add-one at, fields-first, until, drop-drop, place)

-- No field comes after the end of the line.
pub no_field : (line : List ℕ) (at : ℕ) → length line ≤ at → fields_after line at ≡ []
no_field line at h = rw (drop_of_length-le line h)
