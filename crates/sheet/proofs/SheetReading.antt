-- The line of an explanation has the explanation's fields, and no other explanation has that line. Assumes nothing.
use Rattle.std.specs.Prelude.{None, Some, Option}
use mathlib.Core.Bool.{Bool, true, false, ◌&&◌}
use mathlib.Core.List.{List, [], ◌∷◌, ◌++◌}
use mathlib.Core.Path.{◌≡◌, refl, sym, ap, ◌∙◌}
use Prim.Native.Nat.{ℕ, ◌<◌, ◌^◌}
use native.Mathlib.Omega.{arith}
use lib.ListN.{get_or}
use Rattle.decimal.proofs.DecimalRoundTrip.{round_trip}
use Rattle.decimal.proofs.DigitReading.{no_number}
use Rattle.decimal.specs.Read.{read_decimal}
use Rattle.decimal.specs.Write.{decimal, digits_before, digits_in}
use Rattle.model.specs.State.{level as level_of}
use Rattle.script.proofs.Naming.{no_tab}
use Rattle.script.proofs.Parted.{fields-together, no-tab-number}
use Rattle.script.proofs.Same.{every}
use Rattle.script.specs.Bytes.{bytes}
use Rattle.script.specs.LineForms.{fields}
use Rattle.sheet.specs.SheetClaims.{DenialFits, Fits, OneReason, ReceiverFits}
use Rattle.sheet.specs.Sheets.{Denial, Explanation, Allowed, Host, Levels, group, kind_field, receiver_field, sheet_fields, sheet_line}
use Rattle.model.specs.declared.quantity.Level.{Level}

-- No field has a tab.
every-both : {A : Type 0} (test : A → Bool) (left right : List A) → every test left ≡ true → every test right ≡ true → every test (left ++ right) ≡ true
every-both test [] right h k = k
every-both test (x ∷ left) right h k = go (test x) h (λ more. every-both test left right more k)
  where
    go : (t : Bool) → (t && every test left) ≡ true → (every test left ≡ true → every test (left ++ right) ≡ true) → (t && every test (left ++ right)) ≡ true
    go true h ih = ih h
    go false h ih = h

plain-receiver : (by : Option Level) → no_tab (receiver_field by) ≡ true
unfolding receiver_field
plain-receiver None = refl
plain-receiver (Some level) = no-tab-number level.0

plain-kind : (mbec : Bool) → no_tab (kind_field mbec) ≡ true
unfolding kind_field
plain-kind true = refl
plain-kind false = refl

plain-group : (level : ℕ) (d : Option Denial) → every no_tab (group level d) ≡ true
unfolding group kind_field
plain-group level None = refl
plain-group level (Some by) = rw (no-tab-number level, no-tab-number by.mask, no-tab-number by.wanted, plain-kind by.mbec)

pub fields-of-line : (e : Explanation) → fields (sheet_line e) ≡ sheet_fields e
unfolding sheet_line sheet_fields
fields-of-line Allowed = fields-together (bytes "allowed") [] refl refl
fields-of-line Host = fields-together (bytes "host") [] refl refl
fields-of-line (Levels by first second third) =
    fields-together (receiver_field by) (group 1 first ++ (group 2 second ++ group 3 third)) (plain-receiver by)
    (every-both no_tab (group 1 first) (group 2 second ++ group 3 third) (plain-group 1 first)
    (every-both no_tab (group 2 second) (group 3 third) (plain-group 2 second) (plain-group 3 third)))

-- Numbers with one text are equal.
one_number : (m n : ℕ) → m < 2 ^ 64 → n < 2 ^ 64 → decimal m ≡ decimal n → m ≡ n
one_number m n h k e = let same : Some m ≡ Some n = sym (round_trip m h) ∙ ap read_decimal e ∙ round_trip n k in cc

one-kind : (a b : Bool) → kind_field a ≡ kind_field b → a ≡ b
unfolding kind_field
one-kind true true e = refl
one-kind true false e = absurd (let z : ◌≡◌ {A = ℕ} 0 1 = cc in omega arith)
one-kind false true e = absurd (let z : ◌≡◌ {A = ℕ} 0 1 = cc in omega arith)
one-kind false false e = refl

-- A word that is no number.
no_word : (word : List ℕ) (n : ℕ) → n < 2 ^ 64 → read_decimal word ≡ None → word ≡ decimal n → ⊥
no_word word n h m e = no_number (sym m ∙ ap read_decimal e ∙ round_trip n h)

one-receiver : (a b : Option Level) → ReceiverFits a → ReceiverFits b → receiver_field a ≡ receiver_field b → a ≡ b
unfolding receiver_field read_decimal
one-receiver None None h k e = refl
one-receiver None (Some level) h k e = absurd (no_word (bytes "none") level.0 k refl e)
one-receiver (Some level) None h k e = absurd (no_word (bytes "none") level.0 h refl (sym e))
one-receiver (Some level) (Some other) h k e = ap (λ (n : ℕ). Some (level_of n)) (one_number level.0 other.0 h k e)

-- The first of some fields, and that they do not begin with a level's number.
abbrev first_of : List (List ℕ) → List ℕ
first_of [] = []
first_of (field ∷ more) = field

abbrev Without : ℕ → List (List ℕ) → Type 0
Without level more = first_of more ≡ decimal level → ⊥

-- Denials with the same parts are equal.
abbrev denial : ℕ → ℕ → Bool → Denial
denial mask wanted mbec = record { mask = mask; wanted = wanted; mbec = mbec }

same-denial : (a b : Denial) → a.mask ≡ b.mask → a.wanted ≡ b.wanted → a.mbec ≡ b.mbec → a ≡ b
same-denial a b e f g =
    ap (λ (m : ℕ). denial m a.wanted a.mbec) e ∙ ap (λ (w : ℕ). denial b.mask w a.mbec) f ∙ ap (λ (k : Bool). denial b.mask b.wanted k) g

-- What stands after the group of one level is found again.
one-group : (level : ℕ) (a b : Option Denial) (more others : List (List ℕ)) → DenialFits a → DenialFits b → Without level more → Without level others
    → group level a ++ more ≡ group level b ++ others → (a ≡ b) × (more ≡ others)
unfolding group
one-group level None None more others h k w v e = (refl, e)
one-group level None (Some by) more others h k w v e = absurd (w (ap first_of e))
one-group level (Some by) None more others h k w v e = absurd (v (sym (ap first_of e)))
one-group level (Some by) (Some other) more others h k w v e =
    let masks : decimal by.mask ≡ decimal other.mask = cc in
    let bits : decimal by.wanted ≡ decimal other.wanted = cc in
    let kinds : kind_field by.mbec ≡ kind_field other.mbec = cc in
    let e₁ = one_number by.mask other.mask h.0 k.0 masks in
    let e₂ = one_number by.wanted other.wanted h.1 k.1 bits in
    let e₃ = one-kind by.mbec other.mbec kinds in
    (ap Some (same-denial by other e₁ e₂ e₃), cc)

-- The groups of higher levels begin with other numbers.
other-first : (a b : List ℕ) → a ≡ b → get_or a 0 0 ≡ get_or b 0 0
other-first a b e = ap (λ (l : List ℕ). get_or l 0 0) e

above-one : (second third : Option Denial) → Without 1 (group 2 second ++ group 3 third)
unfolding group digits_before digits_in
above-one None None e = omega (arith, other-first [] (decimal 1) e)
above-one None (Some by) e = omega (arith, other-first (decimal 3) (decimal 1) e)
above-one (Some by) third e = omega (arith, other-first (decimal 2) (decimal 1) e)

above-two : (third : Option Denial) → Without 2 (group 3 third)
unfolding group digits_before digits_in
above-two None e = omega (arith, other-first [] (decimal 2) e)
above-two (Some by) e = omega (arith, other-first (decimal 3) (decimal 2) e)

above-three : Without 3 []
unfolding digits_before digits_in
above-three e = omega (arith, other-first [] (decimal 3) e)

-- The words `allowed` and `host` are no receiver.
abbrev Word : List ℕ → Type 0
Word word = (read_decimal word ≡ None) × (word ≡ bytes "none" → ⊥)

no-receiver : (word : List ℕ) (by : Option Level) → Word word → ReceiverFits by → word ≡ receiver_field by → ⊥
unfolding receiver_field
no-receiver word None w h e = w.1 e
no-receiver word (Some level) w h e = no_word word level.0 h w.0 e

allowed-word : Word (bytes "allowed")
unfolding read_decimal
allowed-word = (refl, λ e. omega (arith, other-first (bytes "allowed") (bytes "none") e))

host-word : Word (bytes "host")
unfolding read_decimal
host-word = (refl, λ e. omega (arith, other-first (bytes "host") (bytes "none") e))

-- Explanations with the same fields.
same-fields : (a b : Explanation) → Fits a → Fits b → sheet_fields a ≡ sheet_fields b → a ≡ b
unfolding sheet_fields
same-fields Allowed Allowed h k e = refl
same-fields Allowed Host h k e = absurd (omega (arith, other-first (bytes "allowed") (bytes "host") (ap first_of e)))
same-fields Allowed (Levels by first second third) h k e = absurd (no-receiver (bytes "allowed") by allowed-word k.0 (ap first_of e))
same-fields Host Allowed h k e = absurd (omega (arith, other-first (bytes "host") (bytes "allowed") (ap first_of e)))
same-fields Host Host h k e = refl
same-fields Host (Levels by first second third) h k e = absurd (no-receiver (bytes "host") by host-word k.0 (ap first_of e))
same-fields (Levels by first second third) Allowed h k e = absurd (no-receiver (bytes "allowed") by allowed-word h.0 (sym (ap first_of e)))
same-fields (Levels by first second third) Host h k e = absurd (no-receiver (bytes "host") by host-word h.0 (sym (ap first_of e)))
same-fields (Levels by first second third) (Levels by₂ first₂ second₂ third₂) h k e =
    let receivers = one-receiver by by₂ h.0 k.0 (ap first_of e) in
    let groups : group 1 first ++ (group 2 second ++ group 3 third) ≡ group 1 first₂ ++ (group 2 second₂ ++ group 3 third₂) = cc in
    let (one, after_one) = one-group 1 first first₂ _ _ h.1 k.1 (above-one second third) (above-one second₂ third₂) groups in
    let (two, after_two) = one-group 2 second second₂ _ _ h.2 k.2 (above-two third) (above-two third₂) after_one in
    let (three, none) = one-group 3 third third₂ [] [] h.3 k.3 above-three above-three (ap (λ (l : List (List ℕ)). l ++ []) after_two) in
    cc

pub one-reason : OneReason
one-reason a b h k e = same-fields a b h k (sym (fields-of-line a) ∙ ap fields e ∙ fields-of-line b)
