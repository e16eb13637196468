-- Laws of the way along the fields of a sheet: what is passed, and what that says of the fields. Assumes nothing.
use Rattle.std.specs.Bool.{then_some}
use Rattle.std.specs.Prelude.{None, Option, Some}
use mathlib.Core.Bool.{Bool, true, false, ◌&&◌, ◌||◌, and_assoc, and-false, cond}
use mathlib.Core.List.{List, [], ◌∷◌}
use mathlib.Core.Path.{◌≡◌, refl, sym, ap, ◌∙◌}
use Prim.Native.Nat.{ℕ, ◌+◌, ◌-◌, ◌≤◌, ◌<◌}
use borrow.Author.Tests.{le-ltb, lt-ltb, ltb-false, ltb-true}
use native.Mathlib.Omega.{arith}
use lib.Dec.{ltb}
use lib.ListN.{drop, length, take}
use Rattle.script.proofs.FieldPlaces.{end-within, next_field, no_field}
use Rattle.script.specs.LineForms.{tab}
use Rattle.script.specs.NumberRows.{field_end, fields_after}
use Rattle.sheet.specs.PassedFields.{and_then, field_after, group_passed, passed}
use Rattle.sheet.specs.SheetForms.{is_empty, is_groups, is_kind, is_number}

-- No field, a field that passes, and one that does not.
module _ (test : List ℕ → Bool) (sheet : List ℕ) (at : ℕ) where
  pub no_more : length sheet ≤ at → None ≡ passed test sheet at
  unfolding passed
  no_more h = rw (le-ltb at (length sheet) h)

  module _ (end : ℕ) {answer : Bool} (more : at < length sheet) (ends : end ≡ field_end sheet (at + 1))
      (asked : answer ≡ test (take (end - (at + 1)) (drop (at + 1) sheet))) where
    found : answer ≡ test (field_after sheet at)
    found = rw ends at asked

    good-field : answer ≡ true → Some end ≡ passed test sheet at
    unfolding passed
    good-field e = rw (lt-ltb at (length sheet) more, ← found, e, ends)

    bad-field : answer ≡ false → None ≡ passed test sheet at
    unfolding passed
    bad-field e = rw (lt-ltb at (length sheet) more, ← found, e)

    pub tested-field : {r : Option ℕ} → r ≡ then_some answer end → r ≡ passed test sheet at
    tested-field {r} e = go answer refl
      where
        go : (t : Bool) → answer ≡ t → r ≡ passed test sheet at
        go true h = (rw h at e) ∙ good-field h
        go false h = (rw h at e) ∙ bad-field h

-- What passes stands after the place, and within the sheet.
abbrev Ahead : List ℕ → ℕ → Option ℕ → Type 0
Ahead sheet at (Some end) = (at < end) × (end ≤ length sheet)
Ahead sheet at None = Unit {0}

passed-ahead : (test : List ℕ → Bool) (sheet : List ℕ) (at : ℕ) → Ahead sheet at (passed test sheet at)
unfolding passed
passed-ahead test sheet at = go (ltb at (length sheet)) refl (test (field_after sheet at))
  where
    go : (t : Bool) → ltb at (length sheet) ≡ t → (good : Bool) → Ahead sheet at (cond t (cond good (Some (field_end sheet (at + 1))) None) None)
    go true e true = omega (arith, end-within tab sheet (at + 1) (omega (arith, ltb-true at (length sheet) e)))
    go true e false = tt
    go false e good = tt

later : (sheet : List ℕ) (at next : ℕ) (p : Option ℕ) → at < next → Ahead sheet next p → Ahead sheet at p
later sheet at next (Some end) h a = omega (arith, a.0, a.1)
later sheet at next None h a = tt

then-ahead : (sheet : List ℕ) (at : ℕ) (p : Option ℕ) (f : ℕ → Option ℕ) → Ahead sheet at p → ((next : ℕ) → Ahead sheet next (f next)) → Ahead sheet at (and_then p f)
then-ahead sheet at (Some end) f a each = later sheet at end (f end) a.0 (each end)
then-ahead sheet at None f a each = tt

group-ahead : (sheet : List ℕ) (at : ℕ) → Ahead sheet at (group_passed sheet at)
unfolding group_passed
group-ahead sheet at =
    then-ahead sheet at (passed is_number sheet at) _ (passed-ahead is_number sheet at) (λ level.
    then-ahead sheet level (passed is_number sheet level) _ (passed-ahead is_number sheet level) (λ mask.
    then-ahead sheet mask (passed is_number sheet mask) _ (passed-ahead is_number sheet mask) (passed-ahead is_kind sheet)))

pub group-end : (sheet : List ℕ) (at : ℕ) {p : Option ℕ} {end : ℕ} → p ≡ group_passed sheet at → p ≡ Some end → (at < end) × (end ≤ length sheet)
group-end sheet at e f = rw (sym e ∙ f) at (group-ahead sheet at)

-- A field that passes a test, and what is asked of the fields after it.
abbrev takes : (List ℕ → Bool) → (List (List ℕ) → Bool) → List (List ℕ) → Bool
takes test next [] = false
takes test next (field ∷ more) = test field && next more

-- What is asked where fields passed.
abbrev pub onward : Option ℕ → (ℕ → Bool) → Bool
onward (Some end) next = next end
onward None next = false

pass-taken : (test : List ℕ → Bool) (next : List (List ℕ) → Bool) (sheet : List ℕ) (at : ℕ)
    → takes test next (fields_after sheet at) ≡ onward (passed test sheet at) (λ end. next (fields_after sheet end))
unfolding passed
pass-taken test next sheet at = go (ltb at (length sheet)) refl
  where
    tested : (good : Bool) → (good && next (fields_after sheet (field_end sheet (at + 1))))
        ≡ onward (cond good (Some (field_end sheet (at + 1))) None) (λ end. next (fields_after sheet end))
    tested true = refl
    tested false = refl

    go : (t : Bool) → ltb at (length sheet) ≡ t
        → takes test next (fields_after sheet at)
        ≡ onward (cond t (cond (test (field_after sheet at)) (Some (field_end sheet (at + 1))) None) None) (λ end. next (fields_after sheet end))
    go true e = ap (takes test next) (next_field sheet at (field_end sheet (at + 1)) (ltb-true at (length sheet) e) refl) ∙ tested (test (field_after sheet at))
    go false e = ap (takes test next) (no_field sheet at (ltb-false at (length sheet) e))

then-onward : (p : Option ℕ) (f : ℕ → Option ℕ) (one next : ℕ → Bool) → ((end : ℕ) → one end ≡ onward (f end) next) → onward p one ≡ onward (and_then p f) next
then-onward (Some end) f one next h = h end
then-onward None f one next h = refl

-- What is asked after a group.
abbrev pub rest_good : List (List ℕ) → Bool
rest_good more = is_empty more || is_groups more

groups-taken : (fields : List (List ℕ)) → is_groups fields ≡ takes is_number (takes is_number (takes is_number (takes is_kind rest_good))) fields
unfolding is_groups
groups-taken [] = refl
groups-taken (level ∷ []) = rw (and-false (is_number level))
groups-taken (level ∷ mask ∷ []) = rw (and-false (is_number mask), and-false (is_number level))
groups-taken (level ∷ mask ∷ wanted ∷ []) = rw (and-false (is_number wanted), and-false (is_number mask), and-false (is_number level))
groups-taken (level ∷ mask ∷ wanted ∷ kind ∷ more) = simp and_assoc

pub group-taken : (sheet : List ℕ) (at : ℕ) → is_groups (fields_after sheet at) ≡ onward (group_passed sheet at) (λ end. rest_good (fields_after sheet end))
unfolding group_passed
group-taken sheet at =
    groups-taken (fields_after sheet at)
    ∙ pass-taken is_number _ sheet at
    ∙ then-onward (passed is_number sheet at) _ _ _ (λ level. pass-taken is_number _ sheet level
    ∙ then-onward (passed is_number sheet level) _ _ _ (λ mask. pass-taken is_number _ sheet mask
    ∙ then-onward (passed is_number sheet mask) _ _ _ (λ wanted. pass-taken is_kind rest_good sheet wanted)))

-- No group; a group that the sheet ends with; and a group that more fields follow.
module _ (sheet : List ℕ) (at : ℕ) {p : Option ℕ} (found : p ≡ group_passed sheet at) where
  asked : is_groups (fields_after sheet at) ≡ onward p (λ end. rest_good (fields_after sheet end))
  asked = rw found (group-taken sheet at)

  pub no-group : p ≡ None → is_groups (fields_after sheet at) ≡ false
  no-group e = rw e at asked

  module _ {end : ℕ} (ends : p ≡ Some end) where
    pub groups-end : length sheet ≤ end → is_groups (fields_after sheet at) ≡ true
    groups-end h = (rw ends at asked) ∙ ap rest_good (no_field sheet end h)

    pub groups-go-on : end < length sheet → is_groups (fields_after sheet at) ≡ is_groups (fields_after sheet end)
    groups-go-on h =
        let next = next_field sheet end (field_end sheet (end + 1)) h refl in
        (rw ends at asked) ∙ ap rest_good next ∙ sym (ap is_groups next)
