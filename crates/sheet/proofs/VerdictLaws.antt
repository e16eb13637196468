-- Laws of the verdict on a sheet: what is compared, and what is written. Assumes nothing.
use mathlib.Core.Bool.{Bool, true, false}
use mathlib.Core.List.{List, [], ◌∷◌, ◌++◌}
use mathlib.Core.Path.{◌≡◌, refl, sym, ap, ◌∙◌}
use Prim.Native.Nat.{ℕ, ◌+◌, ◌≤◌}
use borrow.Author.Tests.{leb-true}
use native.Mathlib.Omega.{arith}
use lib.Dec.{leb}
use lib.ListN.{length, length-append}
use Rattle.decimal.proofs.DigitReading.{and_parts}
use Rattle.records.specs.RecordTexts.{ended}
use Rattle.script.proofs.Parted.{put-together}
use Rattle.script.proofs.Same.{differ, same_true}
use Rattle.script.specs.Bytes.{same}
use Rattle.script.specs.LineForms.{fields, longest_line}
use Rattle.script.specs.Texts.{together}
use Rattle.sheet.specs.SheetClaims.{SameByBytes, ShortVerdict}
use Rattle.sheet.specs.SheetForms.{good_form, is_sheet}
use Rattle.sheet.specs.Sheets.{Explanation, sheet_fields, sheet_line}
use Rattle.sheet.specs.Verdicts.{mark, longest_verdict, refusal, same_fields, verdict, verdict_lines}
use Rattle.sheet.proofs.FieldShowing.{shown-length}
use Rattle.sheet.proofs.SheetReading.{fields-of-line}
use Rattle.sheet.proofs.WordBytes.{same-itself}

-- Fields are the same exactly where they are equal.
fields-true : (left right : List (List ℕ)) → same_fields left right ≡ true → left ≡ right
unfolding same_fields
fields-true [] [] h = refl
fields-true [] (b ∷ right) h = differ h
fields-true (a ∷ left) [] h = differ h
fields-true (a ∷ left) (b ∷ right) h =
    let (first, more) = and_parts (same a b) (same_fields left right) h in
    let e : a ≡ b = same_true a b first in
    cc (fields-true left right more)

pub fields-itself : (fields : List (List ℕ)) → same_fields fields fields ≡ true
unfolding same_fields
fields-itself [] = refl
fields-itself (a ∷ more) = rw (same-itself a) (fields-itself more)

equal-bytes : (e : Explanation) (sheet : List ℕ) → same_fields (fields sheet) (sheet_fields e) ≡ true → sheet ≡ sheet_line e
unfolding sheet_line
equal-bytes e sheet h = put-together sheet ∙ ap together (fields-true (fields sheet) (sheet_fields e) h)

pub same-by-bytes : SameByBytes
same-by-bytes e sheet = go (same sheet (sheet_line e)) (same_fields (fields sheet) (sheet_fields e)) refl refl
  where
    go : (bytes parts : Bool) → same sheet (sheet_line e) ≡ bytes → same_fields (fields sheet) (sheet_fields e) ≡ parts → parts ≡ bytes
    go true true b p = refl
    go false false b p = refl
    go true false b p =
        let line : fields sheet ≡ sheet_fields e = ap fields (same_true sheet (sheet_line e) b) ∙ fields-of-line e in
        sym p ∙ ap (λ (l : List (List ℕ)). same_fields l (sheet_fields e)) line ∙ fields-itself (sheet_fields e)
    go false true b p = sym (sym b ∙ ap (λ (l : List ℕ). same l (sheet_line e)) (equal-bytes e sheet p) ∙ same-itself (sheet_line e))

-- The first line of a verdict takes four bytes.
pub mark-length : (right : Bool) → length (ended (mark right ∷ [])) ≡ 4
unfolding ended
mark-length true = refl
mark-length false = refl

refusal-length : length (ended refusal) ≡ 4
unfolding ended
refusal-length = refl

marked : (right : Bool) (more : List (List ℕ)) → ended (mark right ∷ more) ≡ ended (mark right ∷ []) ++ ended more
unfolding ended
marked true more = refl
marked false more = refl

-- The verdict on a sheet of another form, and on one of good form.
module _ (e : Explanation) (sheet : List ℕ) where
  pub verdict-refused : good_form sheet ≡ false → verdict e sheet ≡ ended refusal
  unfolding verdict verdict_lines
  verdict-refused h = rw h

  module _ (good : good_form sheet ≡ true) where
    pub short-sheet : length sheet ≤ longest_line
    unfolding good_form
    short-sheet = leb-true (length sheet) longest_line (and_parts (leb (length sheet) longest_line) (is_sheet (fields sheet)) good).0

    pub verdict-shown : {right : Bool} → right ≡ same_fields (fields sheet) (sheet_fields e) → verdict e sheet ≡ ended (mark right ∷ []) ++ ended (fields sheet)
    unfolding verdict verdict_lines ended
    verdict-shown {right} h = rw (good, ← h) (marked right (fields sheet))

    pub verdict-length : length (verdict e sheet) ≡ 4 + length sheet + 1
    verdict-length =
        let right = same_fields (fields sheet) (sheet_fields e) in
        omega (
          arith,
          ap length (verdict-shown {right = right} refl),
          length-append (ended (mark right ∷ [])) (ended (fields sheet)),
          mark-length right,
          shown-length sheet,
        )

pub short-verdict : ShortVerdict
short-verdict e sheet = go (good_form sheet) refl
  where
    go : (good : Bool) → good_form sheet ≡ good → length (verdict e sheet) ≤ longest_verdict
    go true h = omega (arith, verdict-length e sheet h, short-sheet e sheet h)
    go false h = omega (arith, ap length (verdict-refused e sheet h), refusal-length)
