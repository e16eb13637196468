-- No field of a reason has a tab or a line feed, and a line has room. Assumes nothing.
use Rattle.std.specs.Prelude.{None, Some, Option}
use mathlib.Core.Bool.{Bool, true, false, ◌&&◌}
use mathlib.Core.List.{List, [], ◌∷◌, ◌++◌, append_assoc, append-nil}
use mathlib.Core.Path.{◌≡◌, refl, sym, ap, ◌∙◌}
use Prim.Native.Nat.{ℕ, ◌+◌, ◌≤◌}
use borrow.Author.Tests.{leb-true}
use native.Mathlib.Omega.{arith}
use lib.Dec.{leb}
use lib.ListN.{length, length-append}
use Rattle.decimal.proofs.DigitReading.{and_parts}
use Rattle.decimal.proofs.Digits.{text-digits, text-length}
use Rattle.decimal.specs.Write.{decimal}
use Rattle.reason.specs.ReasonClaims.{ShortReasoned}
use Rattle.reason.specs.ReasonNames.{Refusal, reason_name}
use Rattle.reason.specs.Reasons.{Reason, fields_of, reason_end, reasoned_line, reasoned_text}
use Rattle.reason.specs.declared.Reason.TheVariants as reason
use Rattle.reason.proofs.NameLaws.{each-name}
use Rattle.records.proofs.SameBytes.{digits-no-feed, no-feed-append, no_feed}
use Rattle.records.specs.RecordTexts.{ended}
use Rattle.script.proofs.Naming.{no_tab}
use Rattle.script.proofs.Parted.{no-tab-number}
use Rattle.script.proofs.Same.{every}
use Rattle.script.specs.LineForms.{tab}
use Rattle.script.specs.ListingLine.{line_feed}
use Rattle.script.specs.Texts.{parted, together}
use Rattle.sheet.proofs.SheetLengths.{line-length}
use Rattle.sheet.specs.Sheets.{Denial, Explanation, Allowed, Host, Levels, group, kind_field, receiver_field, sheet_fields, sheet_line, sheet_text}
use Rattle.model.specs.declared.quantity.Level.{Level}

-- No tab and no line feed.
abbrev pub plain : List ℕ → Bool
plain field = no_tab field && no_feed field

pub plain-number : (n : ℕ) → plain (decimal n) ≡ true
plain-number n = rw (no-tab-number n, digits-no-feed (decimal n) (text-digits n))

-- Fields after fields.
plain-both : (left right : List (List ℕ)) → every plain left ≡ true → every plain right ≡ true → every plain (left ++ right) ≡ true
plain-both [] right h k = k
plain-both (x ∷ left) right h k = let (here, more) = and_parts (plain x) (every plain left) h in rw here (plain-both left right more k)

-- The fields of a sheet.
plain-receiver : (by : Option Level) → plain (receiver_field by) ≡ true
unfolding receiver_field
plain-receiver None = refl
plain-receiver (Some level) = plain-number level.0

plain-kind : (mbec : Bool) → plain (kind_field mbec) ≡ true
unfolding kind_field
plain-kind true = refl
plain-kind false = refl

plain-group : (level : ℕ) (d : Option Denial) → every plain (group level d) ≡ true
unfolding group kind_field
plain-group level None = refl
plain-group level (Some by) = rw (plain-number level, plain-number by.mask, plain-number by.wanted, plain-kind by.mbec)

plain-sheet : (e : Explanation) → every plain (sheet_fields e) ≡ true
unfolding sheet_fields
plain-sheet Allowed = refl
plain-sheet Host = refl
plain-sheet (Levels by first second third) =
    rw (plain-receiver by)
    (plain-both (group 1 first) (group 2 second ++ group 3 third) (plain-group 1 first)
    (plain-both (group 2 second) (group 3 third) (plain-group 2 second) (plain-group 3 third)))

-- The names, by one test of all.
plain-name : (r : Refusal) → plain (reason_name r) ≡ true
plain-name r = each-name (λ x. plain (reason_name x)) (unfold reason_name in refl) r

pub plain-fields : (why : Reason) → every plain (fields_of why) ≡ true
unfolding fields_of
plain-fields reason.Nothing = refl
plain-fields (reason.Named r) = rw (plain-name r)
plain-fields (reason.Denied e) = plain-sheet e
plain-fields reason.RegisterWatched = refl
plain-fields reason.OutOfRange = refl
plain-fields reason.EmptyInput = refl

-- What is plain has no tab, and put together no line feed.
pub no-tabs : (fields : List (List ℕ)) → every plain fields ≡ true → every no_tab fields ≡ true
no-tabs [] h = refl
no-tabs (field ∷ more) h =
    let (here, later) = and_parts (plain field) (every plain more) h in
    rw (and_parts (no_tab field) (no_feed field) here).0 (no-tabs more later)

no-feeds-parted : (fields : List (List ℕ)) → every plain fields ≡ true → no_feed (parted fields) ≡ true
unfolding parted
no-feeds-parted [] h = refl
no-feeds-parted (field ∷ more) h =
    let (here, later) = and_parts (plain field) (every plain more) h in
    no-feed-append field (parted more) (and_parts (no_tab field) (no_feed field) here).1 (no-feeds-parted more later)

pub no-feeds-together : (word : List ℕ) (more : List (List ℕ)) → plain word ≡ true → every plain more ≡ true → no_feed (together (word ∷ more)) ≡ true
no-feeds-together word more h k = no-feed-append word (parted more) (and_parts (no_tab word) (no_feed word) h).1 (no-feeds-parted more k)

-- The fields of a reason, each after a tab, take at most 171 bytes.
short-name : (r : Refusal) → length (reason_name r) ≤ 30
short-name r = leb-true _ _ (each-name (λ x. leb (length (reason_name x)) 30) (unfold reason_name in refl) r)

sheet-parted : (e : Explanation) → parted (sheet_fields e) ≡ tab ∷ sheet_line e
unfolding sheet_fields sheet_line parted
sheet-parted Allowed = refl
sheet-parted Host = refl
sheet-parted (Levels by first second third) = refl

pub short-fields : (why : Reason) → length (parted (fields_of why)) ≤ 171
unfolding fields_of parted
short-fields reason.Nothing = omega arith
short-fields (reason.Named r) = omega (arith, length-append (reason_name r) [], short-name r)
short-fields (reason.Denied e) = omega (arith, ap length (sheet-parted e), line-length e)
short-fields reason.RegisterWatched = omega arith
short-fields reason.OutOfRange = omega arith
short-fields reason.EmptyInput = omega arith

-- A field after its tab, and others behind it.
parted-size : (field : List ℕ) (more : List (List ℕ)) → length (parted (field ∷ more)) ≡ 1 + length field + length (parted more)
unfolding parted
parted-size field more = omega (arith, length-append field (parted more))

pub short-reasoned : ShortReasoned
unfolding ended reasoned_line
short-reasoned number answer value level why =
    let three = decimal answer ∷ decimal value ∷ decimal level ∷ fields_of why in
    omega (
      arith,
      length-append (decimal number ++ parted three) (10 ∷ []),
      length-append (decimal number) (parted three),
      parted-size (decimal answer) (decimal value ∷ decimal level ∷ fields_of why),
      parted-size (decimal value) (decimal level ∷ fields_of why),
      parted-size (decimal level) (fields_of why),
      text-length number,
      text-length answer,
      text-length value,
      text-length level,
      short-fields why,
    )

-- What ends a line: nothing but the line feed, a name, or a sheet.
pub end-named : (r : Refusal) → reason_end (reason.Named r) ≡ tab ∷ reason_name r ++ line_feed ∷ []
unfolding fields_of parted
end-named r = ap (λ (l : List ℕ). tab ∷ l ++ line_feed ∷ []) (append-nil (reason_name r))

pub end-denied : (e : Explanation) → reason_end (reason.Denied e) ≡ tab ∷ sheet_text e
unfolding fields_of sheet_text ended
end-denied e = ap (λ (l : List ℕ). l ++ line_feed ∷ []) (sheet-parted e)

pub end-length : (why : Reason) → length (reason_end why) ≤ 172
end-length why = omega (arith, length-append (parted (fields_of why)) (line_feed ∷ []), short-fields why)

-- A line in the pieces in which it is written.
pub line-pieces : (number answer value level : ℕ) (why : Reason)
    → reasoned_text number answer value level why ≡ (((decimal number ++ (tab ∷ decimal answer)) ++ (tab ∷ decimal value)) ++ (tab ∷ decimal level)) ++ reason_end why
unfolding ended reasoned_line
line-pieces number answer value level why =
    ap (λ (l : List ℕ). l ++ line_feed ∷ [])
    (next (decimal number) (decimal answer) (decimal value ∷ decimal level ∷ fields_of why)
    ∙ next (decimal number ++ (tab ∷ decimal answer)) (decimal value) (decimal level ∷ fields_of why)
    ∙ next ((decimal number ++ (tab ∷ decimal answer)) ++ (tab ∷ decimal value)) (decimal level) (fields_of why))
    ∙ append_assoc (((decimal number ++ (tab ∷ decimal answer)) ++ (tab ∷ decimal value)) ++ (tab ∷ decimal level)) (parted (fields_of why)) (line_feed ∷ [])
  where
    next : (before field : List ℕ) (more : List (List ℕ)) → before ++ parted (field ∷ more) ≡ (before ++ (tab ∷ field)) ++ parted more
    next before field more = unfold parted in (sym (append_assoc before (tab ∷ field) (parted more)))
