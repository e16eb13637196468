-- Laws of a line that is put together from its word and its numbers: its fields are these again, and it is not long.
-- Assumes nothing.
use Rattle.std.specs.Prelude.{None, Option, Some}
use Prim.Native.Nat.{ℕ, ◌*◌, ◌≤◌}
use mathlib.Core.Bool.{Bool, true, false, not, ◌&&◌, cond}
use mathlib.Core.List.{List, [], ◌∷◌, ◌++◌, map}
use mathlib.Core.Path.{◌≡◌, refl, ap}
use borrow.Author.Tests.{eqb-true, ne_eqb}
use native.Mathlib.Omega.{arith}
use lib.Dec.{eqb}
use lib.ListN.{length, length-append, take}
use Rattle.decimal.proofs.DigitReading.{and_parts}
use Rattle.decimal.proofs.Digits.{text-digits, text-length}
use Rattle.decimal.proofs.OneText.{one-text}
use Rattle.decimal.proofs.DecimalRoundTrip.{round_trip}
use Rattle.decimal.specs.Read.{read_decimal}
use Rattle.decimal.specs.Write.{OnlyDigits, decimal}
use Rattle.script.specs.LineForms.{fields, followed_by, in_front, numbers_in, tab}
use Rattle.script.specs.NumberRows.{fields_after, until_tab}
use Rattle.script.specs.Texts.{Numbers, parted, together}
use Rattle.script.proofs.Naming.{no_tab}
use Rattle.script.proofs.FieldPlaces.{fields-first}
use Rattle.script.proofs.Same.{differ, every}

-- Digits have no tab, and numbers have only digits.
no-tab-digits : (field : List ℕ) → OnlyDigits field → no_tab field ≡ true
no-tab-digits [] h = refl
no-tab-digits (byte ∷ field) (low, high, more) = rw (ne_eqb byte tab (λ e. omega arith)) (no-tab-digits field more)

-- A field in front of a tab or the end of the line.
first_field : (field rest : List ℕ) (more : List (List ℕ)) → no_tab field ≡ true → fields rest ≡ [] ∷ more → fields (field ++ rest) ≡ field ∷ more
unfolding fields
first_field [] rest more h e = e
first_field (byte ∷ field) rest more h e = go (eqb byte tab) h (λ k. first_field field rest more k e)
  where
    go : (t : Bool) → (not t && no_tab field) ≡ true → (no_tab field ≡ true → fields (field ++ rest) ≡ field ∷ more)
        → cond t ([] ∷ fields (field ++ rest)) (in_front byte (fields (field ++ rest))) ≡ (byte ∷ field) ∷ more
    go true k ih = differ k
    go false k ih = rw (ih k)

fields-of-parted : (more : List (List ℕ)) → every no_tab more ≡ true → fields (parted more) ≡ [] ∷ more
unfolding fields parted
fields-of-parted [] h = refl
fields-of-parted (field ∷ more) h =
    let (plain, rest) = and_parts (no_tab field) (every no_tab more) h in
    ap (λ (others : List (List ℕ)). [] ∷ others) (first_field field (parted more) more plain (fields-of-parted more rest))

-- The fields of a line that was put together are these again.
pub fields-together : (word : List ℕ) (more : List (List ℕ)) → no_tab word ≡ true → every no_tab more ≡ true
    → fields (together (word ∷ more)) ≡ word ∷ more
fields-together word more h k = first_field word (parted more) more h (fields-of-parted more k)

-- The fields of a word and numbers.
pub no-tab-number : (n : ℕ) → no_tab (decimal n) ≡ true
no-tab-number n = no-tab-digits (decimal n) (text-digits n)

no-tab-numbers : (numbers : List ℕ) → every no_tab (map decimal numbers) ≡ true
no-tab-numbers [] = refl
no-tab-numbers (n ∷ numbers) = rw (no-tab-number n) (no-tab-numbers numbers)

pub fields-of : (word numbers : List ℕ) → no_tab word ≡ true → fields (word ++ parted (map decimal numbers)) ≡ word ∷ map decimal numbers
fields-of word numbers h = fields-together word (map decimal numbers) h (no-tab-numbers numbers)

-- Numbers in decimal are read as these numbers.
pub numbers-read : (numbers : List ℕ) → Numbers numbers → numbers_in (map decimal numbers) ≡ Some numbers
unfolding numbers_in
numbers-read [] h = refl
numbers-read (n ∷ numbers) (fits, more) = rw (round_trip n fits, numbers-read numbers more)

-- No other fields are.
no-numbers : {A : Type 0} {numbers : List ℕ} → None ≡ Some numbers → A
no-numbers h = absurd (let z : ◌≡◌ {A = ℕ} 0 1 = cc in omega arith)

pub numbers-text : (texts : List (List ℕ)) (numbers : List ℕ) → numbers_in texts ≡ Some numbers → texts ≡ map decimal numbers
unfolding numbers_in
numbers-text [] numbers h = let e : [] ≡ numbers = cc in ap (map decimal) e
numbers-text (field ∷ texts) numbers h = go (read_decimal field) (numbers_in texts) refl (numbers-text texts) h
  where
    go : (first : Option ℕ) (more : Option (List ℕ)) → read_decimal field ≡ first → ((rest : List ℕ) → more ≡ Some rest → texts ≡ map decimal rest)
        → followed_by first more ≡ Some numbers → field ∷ texts ≡ map decimal numbers
    go None more says ih k = no-numbers k
    go (Some n) None says ih k = no-numbers k
    go (Some n) (Some rest) says ih k =
        let e : n ∷ rest ≡ numbers = cc in
        rw (← e, (one-text field n says).1, ih rest refl)

-- A line is its fields put together.
pub put-together : (line : List ℕ) → line ≡ together (fields line)
unfolding fields parted
put-together [] = refl
put-together (byte ∷ line) =
    rw (fields-first line)
    (go (eqb byte tab) refl (take (until_tab line) line) (fields_after line (until_tab line)) (rw (fields-first line) at (put-together line)))
  where
    go : (t : Bool) → eqb byte tab ≡ t → (word : List ℕ) (more : List (List ℕ)) → line ≡ together (word ∷ more)
        → byte ∷ line ≡ together (cond t ([] ∷ word ∷ more) (in_front byte (word ∷ more)))
    go true e word more h = let tabbed : byte ≡ tab = eqb-true byte tab e in cc
    go false e word more h = ap (λ (rest : List ℕ). byte ∷ rest) h

-- Each number takes at most 21 bytes.
pub parted-length : (numbers : List ℕ) → length (parted (map decimal numbers)) ≤ 21 * length numbers
unfolding parted
parted-length [] = omega arith
parted-length (n ∷ numbers) =
    omega (arith, parted-length numbers, text-length n, length-append (decimal n) (parted (map decimal numbers)))
