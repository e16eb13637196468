-- The form of a sheet by its first field and the fields after it. Assumes nothing.
use mathlib.Core.Bool.{false, ◌&&◌}
use mathlib.Core.List.{List, ◌∷◌}
use mathlib.Core.Path.{◌≡◌, refl, sym, ap, ◌∙◌}
use Prim.Native.Nat.{ℕ, ◌+◌, ◌≤◌, ◌<◌}
use borrow.Author.Tests.{le-leb, lt-leb}
use native.Mathlib.Omega.{arith}
use lib.ListN.{length, take}
use lib.Seq.{length-take-le}
use Rattle.script.proofs.FieldPlaces.{end-within, fields-first, next_field, no_field}
use Rattle.script.specs.LineForms.{fields, longest_line, tab}
use Rattle.script.specs.NumberRows.{field_end, fields_after, until_tab}
use Rattle.sheet.specs.SheetForms.{good_form, is_alone, is_groups, is_receiver, is_sheet}

-- A sheet of more than 256 bytes.
pub long-form : (sheet : List ℕ) → longest_line < length sheet → good_form sheet ≡ false
unfolding good_form
long-form sheet h = rw (lt-leb (length sheet) longest_line h)

-- The first field was found to end at `end`.
module _ (sheet : List ℕ) (end : ℕ) (ends : end ≡ field_end sheet 0) where
  pub first-length : end ≡ length (take end sheet)
  first-length = sym (length-take-le end sheet (omega (arith, end-within tab sheet 0 (omega arith))))

  first_field : fields sheet ≡ take end sheet ∷ fields_after sheet end
  first_field = let until : until_tab sheet ≡ end = omega arith in rw until at (fields-first sheet)

  module _ (short : length sheet ≤ longest_line) where
    by-fields : good_form sheet ≡ is_sheet (take end sheet ∷ fields_after sheet end)
    unfolding good_form
    by-fields = rw (le-leb (length sheet) longest_line short) (ap is_sheet first_field)

    pub alone-form : length sheet ≤ end → good_form sheet ≡ is_alone (take end sheet)
    unfolding is_sheet
    alone-form h = by-fields ∙ rw (no_field sheet end h)

    pub groups-form : end < length sheet → good_form sheet ≡ (is_receiver (take end sheet) && is_groups (fields_after sheet end))
    unfolding is_sheet
    groups-form h = by-fields ∙ rw (next_field sheet end (field_end sheet (end + 1)) h refl)
