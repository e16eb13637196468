-- What is written of a sheet that follows an access line (02, request 3). Assumes nothing.
use Rattle.std.specs.Prelude.{Bool, true, false, ◌&&◌, cond, List, [], ◌∷◌, ℕ}
use Rattle.records.specs.RecordTexts.{ended}
use Rattle.script.specs.Bytes.{bytes, same}
use Rattle.script.specs.LineForms.{fields}
use Rattle.sheet.specs.SheetForms.{good_form}
use Rattle.sheet.specs.Sheets.{Explanation, sheet_fields}

-- Field for field the same.
unfoldable pub same_fields : List (List ℕ) → List (List ℕ) → Bool
same_fields [] [] = true
same_fields [] (b ∷ right) = false
same_fields (a ∷ left) [] = false
same_fields (a ∷ left) (b ∷ right) = same a b && same_fields left right

-- 0, a tab, and 1 exactly when the sheet is, field for field, the line of the explanation, else 0.
abbrev pub mark : Bool → List ℕ
mark right = cond right (bytes "0\t1") (bytes "0\t0")

-- Refusals: 1, a tab and 0.
abbrev pub refusal : List (List ℕ)
refusal = bytes "1\t0" ∷ []

-- Then its fields, one a line; of a sheet of another form the refusal alone.
unfoldable pub verdict_lines : Explanation → List ℕ → List (List ℕ)
verdict_lines e sheet = cond (good_form sheet) (mark (same_fields (fields sheet) (sheet_fields e)) ∷ fields sheet) refusal

-- Each line with its line feed.
unfoldable pub verdict : Explanation → List ℕ → List ℕ
verdict e sheet = ended (verdict_lines e sheet)

-- Its greatest length: four bytes of the first line, and a sheet with a line feed after each field.
abbrev pub longest_verdict : ℕ
longest_verdict = 261
