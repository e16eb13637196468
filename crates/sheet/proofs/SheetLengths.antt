-- The line of an explanation group by group, and how long it is. Assumes nothing.
use Rattle.std.specs.Prelude.{None, Some, Option}
use mathlib.Core.Bool.{Bool, true, false}
use mathlib.Core.List.{List, [], ◌∷◌, ◌++◌, append_assoc, append-nil}
use mathlib.Core.Path.{◌≡◌, refl, sym, ap, ◌∙◌}
use Prim.Native.Nat.{ℕ, ◌≤◌, ◌<◌}
use native.Mathlib.Omega.{arith}
use lib.ListN.{length, length-append}
use Rattle.decimal.proofs.Digits.{few-digits, text-length}
use Rattle.decimal.specs.Write.{decimal}
use Rattle.script.specs.LineForms.{tab}
use Rattle.script.specs.Texts.{parted}
use Rattle.records.specs.RecordTexts.{ended}
use Rattle.sheet.specs.SheetClaims.{ShortSheet}
use Rattle.sheet.specs.Sheets.{Denial, Explanation, Allowed, Host, Levels, group, kind_field, receiver_field, sheet_fields, sheet_line, sheet_text}
use Rattle.model.specs.declared.quantity.Level.{Level}

-- Fields after fields.
parted-both : (left right : List (List ℕ)) → parted (left ++ right) ≡ parted left ++ parted right
unfolding parted
parted-both [] right = refl
parted-both (field ∷ left) right =
    ap (λ (more : List ℕ). tab ∷ field ++ more) (parted-both left right) ∙ ap (λ (more : List ℕ). tab ∷ more) (sym (append_assoc field (parted left) (parted right)))

-- The line of levels that deny: the receiver, and the fields of each level.
pub line-of-levels : (by : Option Level) (first second third : Option Denial)
    → sheet_line (Levels by first second third)
    ≡ ((receiver_field by ++ parted (group 1 first)) ++ parted (group 2 second)) ++ parted (group 3 third)
unfolding sheet_line sheet_fields
line-of-levels by first second third =
    rw (parted-both (group 1 first) (group 2 second ++ group 3 third), parted-both (group 2 second) (group 3 third))
    (simp append_assoc)

-- The fields of a level that denies.
pub group-text : (level : ℕ) (by : Denial)
    → parted (group level (Some by)) ≡ ((tab ∷ decimal level ++ (tab ∷ decimal by.mask)) ++ (tab ∷ decimal by.wanted)) ++ (tab ∷ kind_field by.mbec)
unfolding group parted
group-text level by = simp (append_assoc, append-nil)

-- A receiver takes at most 20 bytes, and a level of one digit at most 50.
pub receiver-length : (by : Option Level) → length (receiver_field by) ≤ 20
unfolding receiver_field
receiver-length None = omega arith
receiver-length (Some level) = (text-length level.0).1

kind-length : (mbec : Bool) → length (kind_field mbec) ≤ 5
unfolding kind_field
kind-length true = omega arith
kind-length false = omega arith

denial-length : (level : ℕ) (by : Denial) → level < 10 → length (parted (group level (Some by))) ≤ 50
denial-length level by h =
    omega (
      arith,
      simp length-append at (ap length (group-text level by)),
      few-digits 1 level (omega arith) (omega arith),
      text-length by.mask,
      text-length by.wanted,
      kind-length by.mbec,
    )

pub group-length : (level : ℕ) (d : Option Denial) → level < 10 → length (parted (group level d)) ≤ 50
unfolding group parted
group-length level None h = omega arith
group-length level (Some by) h = denial-length level by h

levels-length : (by : Option Level) (first second third : Option Denial) → length (sheet_line (Levels by first second third)) ≤ 170
levels-length by first second third =
    omega (
      arith,
      simp length-append at (ap length (line-of-levels by first second third)),
      receiver-length by,
      group-length 1 first (omega arith),
      group-length 2 second (omega arith),
      group-length 3 third (omega arith),
    )

pub line-length : (e : Explanation) → length (sheet_line e) ≤ 170
unfolding sheet_line sheet_fields parted
line-length Allowed = omega arith
line-length Host = omega arith
line-length (Levels by first second third) = levels-length by first second third

pub short-sheet : ShortSheet
unfolding sheet_text ended
short-sheet e = omega (arith, length-append (sheet_line e) (10 ∷ []), line-length e)
