-- Sheets that are read by computation: of good form, of no form, and the verdicts on one that is right, one that is wrong and one that has
-- no form. Assumes nothing.
use Rattle.std.specs.Prelude.{None, Some}
use mathlib.Core.Bool.{true, false}
use mathlib.Core.List.{List, [], ◌∷◌, map}
use mathlib.Core.Path.{◌≡◌, refl}
use Prim.Native.String.{String}
use Rattle.decimal.specs.Read.{read_decimal}
use Rattle.decimal.specs.Write.{digits_before, digits_in}
use Rattle.model.specs.State.{level}
use Rattle.records.specs.RecordTexts.{ended}
use Rattle.script.specs.Bytes.{bytes, same}
use Rattle.script.specs.LineForms.{fields}
use Rattle.script.specs.Texts.{parted}
use Rattle.sheet.specs.SheetForms.{good_form, is_alone, is_groups, is_kind, is_number, is_receiver, is_sheet}
use Rattle.explanation.specs.Explained.{denied_by}
use Rattle.sheet.specs.Sheets.{Explanation, Levels, group, kind_field, receiver_field, sheet_fields, sheet_line}
use Rattle.sheet.specs.Verdicts.{same_fields, verdict, verdict_lines}

-- Alone; a receiver or none, and groups, whatever their numbers are.
unfoldable pub good_sheets : List String
good_sheets =
    "allowed" ∷ "host" ∷ "none\t1\t3\t8\tmbec" ∷ "2\t2\t1\t4\tplain" ∷ "2\t8\t9\t4\tplain"
    ∷ "1\t1\t0\t1\tplain\t3\t5\t2\tplain" ∷ "18446744073709551615\t0\t0\t0\tmbec" ∷ []

-- No word, other words, a carriage return; a word with more; no group, or one that is cut.
unfoldable pub bad_beginnings : List String
bad_beginnings =
    "" ∷ "denied" ∷ "Allowed" ∷ "0allowed" ∷ "host\r" ∷ "host\t" ∷ "allowed\t1\t3\t8\tmbec"
    ∷ "none" ∷ "1" ∷ "1\t1\t3\t8" ∷ []

-- In the place of a number `none`, nothing, a leading zero, 2^64, a sign or a carriage return; another word for `mbec`; a field more; a tab at the end.
unfoldable pub bad_groups : List String
bad_groups =
    "1\tnone\t3\t8\tmbec" ∷ "1\t1\t\t8\tmbec" ∷ "1\t01\t3\t8\tmbec" ∷ "18446744073709551616\t1\t3\t8\tmbec"
    ∷ "1\t1\t+3\t8\tmbec" ∷ "3\r\t3\t0\t2\tplain" ∷ "1\t1\t3\t8\tMBEC" ∷ "1\t1\t3\t8\tmbec\t2" ∷ "1\t1\t3\t8\tmbec\t" ∷ []

pub sheet-forms : (map (λ sheet. good_form (bytes sheet)) good_sheets ≡ map (λ sheet. true) good_sheets)
    × (map (λ sheet. good_form (bytes sheet)) bad_beginnings ≡ map (λ sheet. false) bad_beginnings)
    × (map (λ sheet. good_form (bytes sheet)) bad_groups ≡ map (λ sheet. false) bad_groups)
unfolding good_sheets bad_beginnings bad_groups good_form is_sheet is_groups is_alone is_receiver is_kind is_number fields read_decimal same
sheet-forms = (refl, refl, refl)

-- Levels 1 and 3 deny a user fetch, level 1 with MBEC; level 3 alone is enabled there.
unfoldable pub why : Explanation
why = Levels (Some (level 3)) (denied_by 7 8 true) None (denied_by 3 4 false)

pub sample-line : sheet_line why ≡ bytes "3\t1\t7\t8\tmbec\t3\t3\t4\tplain"
unfolding why sheet_line sheet_fields receiver_field group kind_field parted digits_before digits_in
sample-line = refl

pub sample-verdicts : (verdict why (bytes "3\t1\t7\t8\tmbec\t3\t3\t4\tplain") ≡ bytes "0\t1\n3\n1\n7\n8\nmbec\n3\n3\n4\nplain\n")
    × (verdict why (bytes "1\t1\t3\t8\tmbec") ≡ bytes "0\t0\n1\n1\n3\n8\nmbec\n")
    × (verdict why (bytes "3\t1\t3\t8") ≡ bytes "1\t0\n")
unfolding why verdict verdict_lines same_fields ended sheet_fields receiver_field group kind_field digits_before digits_in good_form is_sheet is_groups is_alone is_receiver is_kind is_number fields read_decimal same
sample-verdicts = (refl, refl, refl)
