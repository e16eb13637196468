-- What is proved of sheets (02, request 3), each once for all explanations and sheets. Assumes nothing.
use Rattle.std.specs.Prelude.{Bool, true, false, ◌||◌, List, ◌∷◌, ◌≡◌, ℕ, ◌<◌, ◌≤◌, ◌^◌, length, None, Some, Option}
use Rattle.records.specs.RecordTexts.{ended}
use Rattle.script.specs.Bytes.{bytes, same}
use Rattle.script.specs.LineForms.{fields}
use Rattle.sheet.specs.SheetForms.{good_form}
use Rattle.sheet.specs.Sheets.{Denial, Explanation, Allowed, Host, Levels, longest_sheet, sheet_fields, sheet_line, sheet_text}
use Rattle.sheet.specs.Verdicts.{longest_verdict, same_fields, verdict}
use Rattle.model.specs.declared.quantity.Level.{Level}

-- The numbers of an explanation are words, as all that code holds are.
abbrev pub ReceiverFits : Option Level → Type 0
ReceiverFits None = Unit {0}
ReceiverFits (Some level) = level.0 < 2 ^ 64

abbrev pub DenialFits : Option Denial → Type 0
DenialFits None = Unit {0}
DenialFits (Some denial) = (denial.mask < 2 ^ 64) × (denial.wanted < 2 ^ 64)

abbrev pub Fits : Explanation → Type 0
Fits Allowed = Unit {0}
Fits Host = Unit {0}
Fits (Levels by first second third) = ReceiverFits by × DenialFits first × DenialFits second × DenialFits third

-- A reason has one line, since it is a function of the reason, and no two reasons share one.
abbrev pub OneReason : Type 0
OneReason = (a b : Explanation) → Fits a → Fits b → sheet_line a ≡ sheet_line b → a ≡ b

-- An explanation that says that levels deny names one of them at least.
abbrev pub denies : Option Denial → Bool
denies None = false
denies (Some denial) = true

abbrev pub names : Explanation → Bool
names Allowed = true
names Host = true
names (Levels by first second third) = denies first || denies second || denies third

-- The line of an explanation has the form of a sheet.
abbrev pub LineIsSheet : Type 0
LineIsSheet = (e : Explanation) → Fits e → names e ≡ true → good_form (sheet_line e) ≡ true

-- Handed back as a sheet it is right, and is shown by its fields.
abbrev pub RightSheet : Type 0
RightSheet = (e : Explanation) → Fits e → names e ≡ true → verdict e (sheet_line e) ≡ ended (bytes "0\t1" ∷ sheet_fields e)

-- A sheet is field for field the line of an explanation exactly where it has the same bytes.
abbrev pub SameByBytes : Type 0
SameByBytes = (e : Explanation) (sheet : List ℕ) → same_fields (fields sheet) (sheet_fields e) ≡ same sheet (sheet_line e)

-- Buffers that always have room.
abbrev pub ShortSheet : Type 0
ShortSheet = (e : Explanation) → length (sheet_text e) ≤ longest_sheet

abbrev pub ShortVerdict : Type 0
ShortVerdict = (e : Explanation) (sheet : List ℕ) → length (verdict e sheet) ≤ longest_verdict
