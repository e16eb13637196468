-- How the code goes along the fields of a sheet: from the end of one to the end of the next. Assumes nothing.
use Rattle.std.specs.Prelude.{Bool, true, false, cond, List, ℕ, ◌+◌, ◌-◌, ltb, drop, length, take, None, Option, Some}
use Rattle.script.specs.NumberRows.{field_end}
use Rattle.sheet.specs.SheetForms.{is_kind, is_number}

-- The field after the tab at a place, and its end, where there is such a field and it passes a test.
abbrev pub field_after : List ℕ → ℕ → List ℕ
field_after sheet at = take (field_end sheet (at + 1) - (at + 1)) (drop (at + 1) sheet)

unfoldable pub passed : (List ℕ → Bool) → List ℕ → ℕ → Option ℕ
passed test sheet at =
    cond (ltb at (length sheet)) (cond (test (field_after sheet at)) (Some (field_end sheet (at + 1))) None) None

-- What follows fields that passed.
abbrev pub and_then : Option ℕ → (ℕ → Option ℕ) → Option ℕ
and_then (Some end) next = next end
and_then None next = None

-- A group is three numbers, and last `mbec` or `plain`; the end of one.
abbrev pub is_part : Bool → List ℕ → Bool
is_part true = is_kind
is_part false = is_number

unfoldable pub group_passed : List ℕ → ℕ → Option ℕ
group_passed sheet at =
    and_then (passed (is_part false) sheet at) (λ level.
    and_then (passed (is_part false) sheet level) (λ mask.
    and_then (passed (is_part false) sheet mask) (passed (is_part true) sheet)))
