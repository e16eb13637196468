-- The form of a sheet that was filled in by hand (02, request 3): `allowed`, `host`, or a number or `none` and at least one group of
-- three numbers and `mbec` or `plain`. Which numbers they are does not matter to the form. Assumes nothing.
use Rattle.std.specs.Prelude.{Bool, true, false, ◌&&◌, ◌||◌, List, [], ◌∷◌, ℕ, is_some, leb, length}
use Rattle.decimal.specs.Read.{read_decimal}
use Rattle.script.specs.Bytes.{bytes, same}
use Rattle.script.specs.LineForms.{fields, longest_line}

-- A number as 01 writes them.
unfoldable pub is_number : List ℕ → Bool
is_number field = is_some (read_decimal field)

-- One word or the other.
abbrev pub either : List ℕ → List ℕ → List ℕ → Bool
either one other field = same field one || same field other

-- `allowed` or `host`, each alone; a number or `none`, which stands only first; `mbec` or `plain`.
unfoldable pub is_alone : List ℕ → Bool
is_alone field = either (bytes "allowed") (bytes "host") field

unfoldable pub is_receiver : List ℕ → Bool
is_receiver field = same field (bytes "none") || is_number field

unfoldable pub is_kind : List ℕ → Bool
is_kind field = either (bytes "mbec") (bytes "plain") field

-- At least one group: after a group stands nothing, or at least one group.
abbrev pub is_empty : List (List ℕ) → Bool
is_empty [] = true
is_empty (field ∷ more) = false

unfoldable pub is_groups : List (List ℕ) → Bool
is_groups [] = false
is_groups (level ∷ []) = false
is_groups (level ∷ mask ∷ []) = false
is_groups (level ∷ mask ∷ wanted ∷ []) = false
is_groups (level ∷ mask ∷ wanted ∷ kind ∷ more) =
    is_number level && is_number mask && is_number wanted && is_kind kind && (is_empty more || is_groups more)

-- The fields of a sheet.
unfoldable pub is_sheet : List (List ℕ) → Bool
is_sheet [] = false
is_sheet (field ∷ []) = is_alone field
is_sheet (first ∷ field ∷ more) = is_receiver first && is_groups (field ∷ more)

-- A sheet is a line as 01 has them: its fields are parted by tabs, and it has at most 256 bytes.
unfoldable pub good_form : List ℕ → Bool
good_form sheet = leb (length sheet) longest_line && is_sheet (fields sheet)
