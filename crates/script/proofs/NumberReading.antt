-- Laws of the loop that reads the numbers of a line into a row.
-- They keep its invariant, `Reading`, and say what was read at its end. Assumes nothing.
use Rattle.std.specs.Prelude.{None, Option, Some}
use Rattle.std.specs.List.{filter}
use Prim.Native.Nat.{ℕ, zero, suc, ◌+◌, ◌-◌, ◌≤◌, ◌<◌}
use mathlib.Core.Bool.{Bool, true, false, cond}
use mathlib.Core.List.{List, [], ◌∷◌, ◌++◌, append_assoc, append-nil}
use mathlib.Core.Path.{◌≡◌, refl, sym, ap, ◌∙◌}
use borrow.Author.Tests.{eq-eqb, eqb-false, eqb-true, ltb-false, ltb-true, ne_eqb}
use native.Mathlib.Numerals.{add-one}
use native.Mathlib.Omega.{arith}
use lib.Dec.{eqb, ltb}
use lib.ListN.{drop, drop_of_length-le, get_or, length, length-append, replicate, set, take}
use lib.Seq.{drop-cons, sets}
use Rattle.decimal.proofs.DigitReading.{digit-byte, followed, no_number as not-number}
use Rattle.decimal.specs.Read.{digit_of, read_decimal}
use Rattle.script.specs.LineForms.{fields, followed_by, in_front, numbers_in, tab}
use Rattle.script.specs.NumberRows.{NumberEnd, field_end, fields_after, row, row_in}
use Rattle.script.proofs.FieldPlaces.{at_byte, fields-first, next_field, no_field}
use Rattle.script.proofs.StoredTexts.{sets-append}

-- Numbers that were read, and those after them.
abbrev pub joined : List ℕ → Option (List ℕ) → Option (List ℕ)
joined read None = None
joined read (Some more) = Some (read ++ more)

joined-none : (more : Option (List ℕ)) → more ≡ joined [] more
joined-none None = refl
joined-none (Some more) = refl

joined-one : (read : List ℕ) (n : ℕ) (more : Option (List ℕ)) → joined read (followed_by (Some n) more) ≡ joined (read ++ n ∷ []) more
joined-one read n None = refl
joined-one read n (Some more) = rw append_assoc

-- A number after as many as are taken.
one_more : (takes : ℕ) (read : List ℕ) (next : Option ℕ) (more : Option (List ℕ)) → length read ≡ takes
    → None ≡ row takes (joined read (followed_by next more))
one_more takes read None more h = refl
one_more takes read (Some n) None h = refl
one_more takes read (Some n) (Some more) h =
    rw (ne_eqb (length (read ++ n ∷ more)) takes (λ e. omega (arith, length-append read (n ∷ more))))

-- There are as many numbers as fields.
pub numbers-length : (more : List (List ℕ)) (numbers : List ℕ) → numbers_in more ≡ Some numbers → length numbers ≡ length more
unfolding numbers_in
numbers-length [] numbers e = let none_read : numbers ≡ [] = cc in ap length none_read
numbers-length (field ∷ more) numbers e = go (read_decimal field) (numbers_in more) (numbers-length more) e
  where
    go : (first : Option ℕ) (rest : Option (List ℕ)) → ((n : List ℕ) → rest ≡ Some n → length n ≡ length more) → followed_by first rest ≡ Some numbers
        → length numbers ≡ suc (length more)
    go None rest ih e = absurd (let z : ◌≡◌ {A = ℕ} 0 1 = cc in omega arith)
    go (Some n) None ih e = absurd (let z : ◌≡◌ {A = ℕ} 0 1 = cc in omega arith)
    go (Some n) (Some rest) ih e = let whole : numbers ≡ n ∷ rest = cc in ap length whole ∙ ap suc (ih rest refl)

-- A field that says a number does not begin with a tab.
not-tab : (field : List ℕ) (n : ℕ) → read_decimal field ≡ Some n → get_or field 0 0 ≡ tab → ⊥
unfolding read_decimal
not-tab [] n e t = not-number e
not-tab (byte ∷ field) n e t =
    let (d, says, more) = followed (digit_of byte) e in
    omega (arith, digit-byte byte d says)

-- What the loop keeps: some numbers were read, they are stored, and the line says these and then the numbers after `at`.
pub record Reading (line : List ℕ) (from takes : ℕ) (values : List ℕ) (count at : ℕ) : Type 0 where
  pub read : List ℕ
  pub counted : count ≡ length read
  pub within : count ≤ takes
  pub place : at ≤ length line
  pub stored : values ≡ sets (replicate 7 0) 0 read
  pub rest : numbers_in (fields_after line from) ≡ joined read (numbers_in (fields_after line at))

-- Before the first number.
pub none_read : (line : List ℕ) (from takes : ℕ) → from ≤ length line → Reading line from takes (replicate 7 0) 0 from
none_read line from takes h =
    record { read = []; counted = refl; within = omega arith; place = h; stored = refl; rest = joined-none (numbers_in (fields_after line from)) }

-- A tab at the end of a line has an empty field after it.
empty-field : (line : List ℕ) (at : ℕ) → at + 1 ≡ length line → numbers_in (fields_after line at) ≡ None
unfolding numbers_in fields read_decimal
empty-field line at h =
    let over : length line ≤ suc at = omega arith in
    rw (drop-cons line at 0 (omega arith), drop_of_length-le line over)

module _ {line : List ℕ} {from takes : ℕ} {values : List ℕ} {count at : ℕ} (w : Reading line from takes values count at) where
  -- The end of the line, after as many numbers as are taken.
  pub all_read : length line ≤ at → count ≡ takes → Some values ≡ row_in takes (fields_after line from)
  unfolding numbers_in
  all_read h full = rw (w.rest, no_field line at h, append-nil, ← w.counted, eq-eqb count takes full) (ap Some w.stored)

  -- No number comes after a place at or before the line's last byte.
  pub too_few : length line ≤ at + 1 → count < takes → None ≡ row_in takes (fields_after line from)
  unfolding numbers_in
  too_few h fewer = go (ltb at (length line)) refl
    where
      go : (t : Bool) → ltb at (length line) ≡ t → None ≡ row_in takes (fields_after line from)
      go true e = let last = ltb-true at (length line) e in rw (w.rest, empty-field line at (omega arith))
      go false e =
          rw (w.rest, no_field line at (ltb-false at (length line) e), append-nil, ← w.counted, ne_eqb count takes (λ d. omega arith))

  -- The field after the tab at `at`.
  one_field : at < length line
      → let end = field_end line (at + 1) in
      numbers_in (fields_after line at) ≡ followed_by (read_decimal (take (end - (at + 1)) (drop (at + 1) line))) (numbers_in (fields_after line end))
  unfolding numbers_in
  one_field more = rw (next_field line at (field_end line (at + 1)) more refl)

  -- It was found to end at `end`, and to say `next`.
  module _ (end : ℕ) {next : Option ℕ} (more : at + 1 < length line) (found : NumberEnd line (at + 1) end)
      (says : next ≡ read_decimal (take (end - (at + 1)) (drop (at + 1) line))) where
    pub number_read : {n : ℕ} → next ≡ Some n → count < takes → Reading line from takes (set values count n) (count + 1) end
    unfolding read_decimal
    number_read {n} e room =
        let plain : get_or line (at + 1) 0 ≡ tab → ⊥ = first_plain (end - (at + 1)) n (sym says ∙ e) in
        let ends : end ≡ field_end line (at + 1) = found.ends plain in
        let field : numbers_in (fields_after line at) ≡ followed_by (Some n) (numbers_in (fields_after line end)) =
        (rw (← ends) at (one_field (omega arith))) ∙ ap (λ (x : Option ℕ). followed_by x (numbers_in (fields_after line end))) (sym says ∙ e) in
        record {
          read = w.read ++ n ∷ [];
          counted = omega (arith, w.counted, length-append w.read (n ∷ []));
          within = omega arith;
          place = found.within;
          stored =
              let place : count ≡ 0 + length w.read = omega (arith, w.counted) in
              rw (w.stored, place) (sets-append w.read (replicate 7 0) 0 (n ∷ []));
          rest = w.rest ∙ ap (joined w.read) field ∙ joined-one w.read n (numbers_in (fields_after line end));
        }
      where
        first_plain : (k n : ℕ) → read_decimal (take k (drop (at + 1) line)) ≡ Some n → get_or line (at + 1) 0 ≡ tab → ⊥
        first_plain zero n e t = not-number e
        first_plain (suc k) n e t = not-tab (take (suc k) (drop (at + 1) line)) n e (rw (drop-cons line (at + 1) 0 more) t)

    pub no_number : next ≡ None → None ≡ row_in takes (fields_after line from)
    unfolding read_decimal
    no_number e = go (eqb (get_or line (at + 1) 0) tab) refl
      where
        go : (t : Bool) → eqb (get_or line (at + 1) 0) tab ≡ t → None ≡ row_in takes (fields_after line from)
        go true t =
            let empty : field_end line (at + 1) - (at + 1) ≡ 0 = omega (arith, at_byte tab line (at + 1) more (eqb-true _ _ t)) in
            rw (w.rest, one_field (omega arith), empty)
        go false t =
            let ends : end ≡ field_end line (at + 1) = found.ends (eqb-false _ _ t) in
            rw (w.rest, one_field (omega arith), ← ends, ← says, e)

  -- A field after as many numbers as are taken.
  pub too_many : at < length line → count ≡ takes → None ≡ row_in takes (fields_after line from)
  too_many more full =
      let end = field_end line (at + 1) in
      one_more takes w.read (read_decimal (take (end - (at + 1)) (drop (at + 1) line))) (numbers_in (fields_after line end)) (omega (arith, w.counted))
      ∙ sym (ap (row takes) (w.rest ∙ ap (joined w.read) (one_field more)))

-- There is a field more than there are tabs.
some-field : (line : List ℕ) (byte : ℕ) → length (in_front byte (fields line)) ≡ length (fields line)
some-field line byte = rw (fields-first line)

tabs-counted : (line : List ℕ) → length (fields line) ≡ suc (length (filter (λ byte. eqb byte tab) line))
unfolding fields
tabs-counted [] = refl
tabs-counted (byte ∷ line) = go (eqb byte tab) (tabs-counted line)
  where
    go : (t : Bool) → length (fields line) ≡ suc (length (filter (λ byte. eqb byte tab) line))
        → length (cond t ([] ∷ fields line) (in_front byte (fields line))) ≡ suc (length (cond t (byte ∷ filter (λ byte. eqb byte tab) line) (filter (λ byte. eqb byte tab) line)))
    go true h = ap suc h
    go false h = some-field line byte ∙ h

-- How many fields come after the one that ends at a place.
pub counted-after : (line : List ℕ) (from : ℕ) → from < length line → 1 + length (filter (λ byte. eqb byte tab) (drop (from + 1) line)) ≡ length (fields_after line from)
counted-after line from h = rw (drop-cons line from 0 h, add-one from) (omega (arith, tabs-counted (drop (suc from) line)))
