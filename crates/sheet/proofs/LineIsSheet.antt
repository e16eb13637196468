-- The theorems that the line of an explanation has the form of a sheet, and is right. Assumes nothing.
use Rattle.std.specs.Prelude.{None, Some, Option, is_some}
use mathlib.Core.Bool.{Bool, true, false, ◌||◌}
use mathlib.Core.List.{List, [], ◌∷◌, ◌++◌, append-nil}
use mathlib.Core.Path.{◌≡◌, refl, ap}
use Prim.Native.Nat.{ℕ, ◌<◌, ◌^◌}
use borrow.Author.Tests.{le-leb}
use native.Mathlib.Omega.{arith}
use lib.ListN.{length}
use Rattle.decimal.proofs.DecimalRoundTrip.{round_trip}
use Rattle.decimal.specs.Write.{decimal}
use Rattle.script.proofs.Same.{differ}
use Rattle.script.specs.Bytes.{bytes, same}
use Rattle.script.specs.LineForms.{longest_line}
use Rattle.sheet.specs.SheetClaims.{DenialFits, Fits, LineIsSheet, ReceiverFits, RightSheet, denies, names}
use Rattle.sheet.specs.SheetForms.{good_form, is_alone, is_empty, is_groups, is_kind, is_number, is_receiver, is_sheet}
use Rattle.sheet.specs.Sheets.{Denial, Explanation, Allowed, Host, Levels, group, kind_field, receiver_field, sheet_fields, sheet_line}
use Rattle.sheet.specs.Verdicts.{verdict, verdict_lines}
use Rattle.sheet.proofs.FieldPassing.{rest_good}
use Rattle.sheet.proofs.SheetLengths.{line-length}
use Rattle.sheet.proofs.SheetReading.{fields-of-line}
use Rattle.sheet.proofs.VerdictLaws.{fields-itself}
use Rattle.model.specs.declared.quantity.Level.{Level}

-- Each field is what stands in its place.
number-good : (n : ℕ) → n < 2 ^ 64 → is_number (decimal n) ≡ true
unfolding is_number
number-good n h = ap is_some (round_trip n h)

kind-good : (mbec : Bool) → is_kind (kind_field mbec) ≡ true
unfolding is_kind kind_field same
kind-good true = refl
kind-good false = refl

receiver-good : (by : Option Level) → ReceiverFits by → is_receiver (receiver_field by) ≡ true
unfolding is_receiver receiver_field same
receiver-good None h = refl
receiver-good (Some level) h = go (same (decimal level.0) (bytes "none"))
  where
    go : (t : Bool) → (t || is_number (decimal level.0)) ≡ true
    go true = refl
    go false = number-good level.0 h

-- Groups in front of groups or of nothing.
rest-good : (level : ℕ) (d : Option Denial) (more : List (List ℕ)) → level < 2 ^ 64 → DenialFits d → rest_good more ≡ true → rest_good (group level d ++ more) ≡ true
unfolding group is_groups
rest-good level None more l h r = r
rest-good level (Some by) more l h r =
    rw (number-good level l, number-good by.mask h.0, number-good by.wanted h.1, kind-good by.mbec) r

some-group : (first second third : Option Denial) → (denies first || denies second || denies third) ≡ true
    → is_empty (group 1 first ++ (group 2 second ++ group 3 third)) ≡ false
unfolding group
some-group (Some by) second third h = refl
some-group None (Some by) third h = refl
some-group None None (Some by) h = refl
some-group None None None h = differ h

groups-good : (more : List (List ℕ)) → is_empty more ≡ false → rest_good more ≡ true → is_groups more ≡ true
groups-good more e r = rw e at r

-- A receiver and groups.
levels-good : (first : List ℕ) (more : List (List ℕ)) → is_receiver first ≡ true → is_groups more ≡ true → is_sheet (first ∷ more) ≡ true
unfolding is_sheet is_groups
levels-good first [] h k = differ k
levels-good first (field ∷ more) h k = rw h k

sheet-good : (e : Explanation) → Fits e → names e ≡ true → is_sheet (sheet_fields e) ≡ true
unfolding is_sheet sheet_fields is_alone same
sheet-good Allowed h n = refl
sheet-good Host h n = refl
sheet-good (Levels by first second third) h n =
    let last : rest_good (group 3 third) ≡ true = rw (append-nil (group 3 third)) at (rest-good 3 third [] (omega arith) h.3 refl) in
    let rest = rest-good 1 first _ (omega arith) h.1 (rest-good 2 second _ (omega arith) h.2 last) in
    levels-good (receiver_field by) (group 1 first ++ (group 2 second ++ group 3 third)) (receiver-good by h.0)
    (groups-good (group 1 first ++ (group 2 second ++ group 3 third)) (some-group first second third n) rest)

pub line-is-sheet : LineIsSheet
unfolding good_form
line-is-sheet e h n =
    rw (le-leb (length (sheet_line e)) longest_line (omega (arith, line-length e)), fields-of-line e) (sheet-good e h n)

pub right-sheet : RightSheet
unfolding verdict verdict_lines
right-sheet e h n = rw (line-is-sheet e h n, fields-of-line e, fields-itself (sheet_fields e))
