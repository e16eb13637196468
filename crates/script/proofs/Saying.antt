-- Laws of what a line says, by the row that its numbers were read into.
-- Assumes nothing.
use Rattle.std.specs.Prelude.{Err, None, Ok, Option, Some, Result, ok_or}
use Prim.Native.Nat.{ℕ, zero, suc, ◌+◌, ◌≤◌}
use mathlib.Core.Bool.{Bool, true, false, cond}
use mathlib.Core.List.{List, [], ◌∷◌, ◌++◌}
use mathlib.Core.Path.{◌≡◌, refl, sym, ap, ◌∙◌}
use borrow.Author.Tests.{eq-eqb, eqb-true}
use native.Mathlib.Omega.{arith}
use lib.Dec.{eqb}
use lib.ListN.{drop, get_or, length, replicate}
use lib.Seq.{get_or-drop, sets, sets-eq}
use Rattle.model.specs.declared.answer.Refusal.{Refusal}
use Rattle.model.specs.declared.answer.Refusal.TheVariants.{NotANumber, WrongFieldCount}
use Rattle.script.specs.EventForms.{after}
use Rattle.script.specs.LineForms.{Form, From, in_form, made, numbers_in, of_numbers}
use Rattle.script.specs.NumberRows.{numbers_after, refusal_in, row}
use Rattle.script.proofs.NumberReading.{numbers-length}

-- Numbers that are stored into a row of zeros are read from it again.
zeros : (n i : ℕ) → ◌≡◌ {A = ℕ} (get_or (replicate n 0) i 0) 0
zeros zero i = refl
zeros (suc n) zero = refl
zeros (suc n) (suc i) = zeros n i

before-zeros : (numbers rest : List ℕ) (i : ℕ) → ((j : ℕ) → get_or rest j 0 ≡ 0) → get_or (numbers ++ rest) i 0 ≡ get_or numbers i 0
before-zeros [] rest i h = h i
before-zeros (n ∷ numbers) rest zero h = refl
before-zeros (n ∷ numbers) rest (suc i) h = before-zeros numbers rest i h

pub stored-number : (numbers : List ℕ) (i : ℕ) → length numbers ≤ 7 → get_or (sets (replicate 7 0) 0 numbers) i 0 ≡ get_or numbers i 0
stored-number numbers i h =
    let row : List ℕ = replicate 7 0 in
    ap (λ (l : List ℕ). get_or l i 0) (sets-eq numbers row 0 (omega arith))
    ∙ before-zeros numbers (drop (0 + length numbers) row) i (λ j. get_or-drop (0 + length numbers) row j 0 ∙ zeros 7 (0 + length numbers + j))

-- What is made from numbers depends on nothing else.
made-same : {A : Type 0} (n : ℕ) (value : From n A) (place : ℕ) (left right : List ℕ) → ((i : ℕ) → get_or left i 0 ≡ get_or right i 0)
    → made n value place left ≡ made n value place right
made-same zero value place left right h = refl
made-same (suc n) value place left right h = rw (h place) (made-same n (value (get_or right place 0)) (suc place) left right h)

-- What is done after a value is made is done with the value.
pub after-made : {A B : Type 0} (n : ℕ) (f : A → B) (value : From n A) (place : ℕ) (numbers : List ℕ)
    → made n (after n f value) place numbers ≡ f (made n value place numbers)
after-made zero f value place numbers = refl
after-made (suc n) f value place numbers = after-made n f (value (get_or numbers place 0)) (suc place) numbers

-- Fields whose numbers were taken say as many numbers, which stand in the row.
pub row-held : (n : ℕ) (more : List (List ℕ)) {values : List ℕ} → numbers_after n more ≡ Ok values
    → (numbers : List ℕ) × (numbers_in more ≡ Some numbers) × (length numbers ≡ n) × (values ≡ sets (replicate 7 0) 0 numbers)
row-held n more {values} h = go (numbers_in more) refl h
  where
    go : (found : Option (List ℕ)) → numbers_in more ≡ found → ok_or (row n found) (refusal_in n more) ≡ Ok values
        → (numbers : List ℕ) × (numbers_in more ≡ Some numbers) × (length numbers ≡ n) × (values ≡ sets (replicate 7 0) 0 numbers)
    go None f e = absurd cc
    go (Some numbers) f e = by_count (eqb (length numbers) n) refl e
      where
        by_count : (t : Bool) → eqb (length numbers) n ≡ t → ok_or (cond t (Some (sets (replicate 7 0) 0 numbers)) None) (refusal_in n more) ≡ Ok values
            → (numbers : List ℕ) × (numbers_in more ≡ Some numbers) × (length numbers ≡ n) × (values ≡ sets (replicate 7 0) 0 numbers)
        by_count true t e = (numbers, f, eqb-true (length numbers) n t, cc)
        by_count false t e = absurd cc

-- What a form's fields say, by the numbers that were taken of them, or by why they were refused.
module _ {A R : Type 0} (good : A → R) (bad : Refusal → R) (form : Form A) (few : form.count ≤ 7) (more : List (List ℕ)) where
  pub row-said : {values : List ℕ} → numbers_after form.count more ≡ Ok values → good (made form.count form.value 0 values) ≡ in_form good bad form more
  row-said {values} h =
      let (numbers, found, counted, held) = row-held form.count more h in
      let size : length more ≡ form.count = sym (numbers-length more numbers found) ∙ counted in
      rw (eq-eqb (length more) form.count size, found)
      (ap good (made-same form.count form.value 0 values numbers
      (λ i. ap (λ (l : List ℕ). get_or l i 0) held ∙ stored-number numbers i (omega arith))))

  pub row-malformed : {refusal : Refusal} → numbers_after form.count more ≡ Err refusal → bad refusal ≡ in_form good bad form more
  row-malformed {refusal} h = go (numbers_in more) refl h
    where
      go : (found : Option (List ℕ)) → numbers_in more ≡ found → ok_or (row form.count found) (refusal_in form.count more) ≡ Err refusal
          → bad refusal ≡ cond (eqb (length more) form.count) (of_numbers good bad form found) (bad WrongFieldCount)
      go None f e = by_count (eqb (length more) form.count) e
        where
          by_count : (t : Bool) → ◌≡◌ {A = Result (List ℕ) Refusal} (Err (cond t NotANumber WrongFieldCount)) (Err refusal) → bad refusal ≡ cond t (bad NotANumber) (bad WrongFieldCount)
          by_count true e = cc
          by_count false e = cc
      go (Some numbers) f e = rw (← (numbers-length more numbers f)) (by_count (eqb (length numbers) form.count) (rw (← (numbers-length more numbers f)) at e))
        where
          by_count : (t : Bool) → ok_or (cond t (Some (sets (replicate 7 0) 0 numbers)) None) (cond t NotANumber WrongFieldCount) ≡ Err refusal
              → bad refusal ≡ cond t (good (made form.count form.value 0 numbers)) (bad WrongFieldCount)
          by_count true e = absurd cc
          by_count false e = cc
