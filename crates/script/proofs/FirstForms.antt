-- The two forms of a first line (02, request 1): which one a line has, and what its numbers make. Assumes nothing.
use Rattle.std.specs.Prelude.{Err, Ok}
use Prim.Native.Nat.{ℕ, suc, ◌≤◌}
use mathlib.Core.Bool.{Bool, true, false, cond}
use mathlib.Core.List.{List, [], ◌∷◌}
use mathlib.Core.Path.{◌≡◌, refl, sym, ap, ◌∙◌}
use borrow.Author.Tests.{eqb-true, eq-eqb, ne_eqb, eqb-false}
use native.Mathlib.Omega.{arith}
use lib.Dec.{eqb}
use lib.ListN.{get_or-eq_default, get_or, length, take}
use lib.Seq.{length-take-le}
use Rattle.script.specs.Bytes.{begun, bytes}
use Rattle.script.specs.First.{first_form, first_line}
use Rattle.script.specs.LineForms.{UnknownWord, fields, in_form, longest_line, made, said, tab}
use Rattle.script.specs.NumberRows.{fields_after, numbers_after, until_tab}
use Rattle.script.proofs.FieldPlaces.{fields-first, until-within}
use Rattle.script.proofs.Naming.{begun-same, form_among, line-said}
use Rattle.script.proofs.Same.{same_true}
use Rattle.script.proofs.Saying.{row-held, stored-number}

-- Neither has more than seven numbers.
pub few-numbers : (seventh : Bool) → (first_form seventh).count ≤ 7
few-numbers true = omega arith
few-numbers false = omega arith

-- What a line of at most 256 bytes says in one of them.
pub said-first : (seventh : Bool) (line : List ℕ) → length line ≤ longest_line
    → said Ok Err (first_form seventh ∷ []) line ≡ cond (begun line (bytes "vsm")) (in_form Ok Err (first_form seventh) (fields_after line 3)) (Err UnknownWord)
unfolding form_among
said-first true line short = line-said Ok Err (first_form true ∷ []) line refl short
said-first false line short = line-said Ok Err (first_form false ∷ []) line refl short

-- A line that begins with `vsm` has a seventh field where six fields come after the word.
pub seventh-field : (line : List ℕ) → begun line (bytes "vsm") ≡ true → eqb (length (fields line)) 7 ≡ eqb (length (fields_after line 3)) 6
seventh-field line b =
    let word : take (until_tab line) line ≡ bytes "vsm" = same_true _ _ (sym (begun-same line (bytes "vsm") refl) ∙ b) in
    let three : until_tab line ≡ 3 = sym (length-take-le (until_tab line) line (until-within tab line)) ∙ ap length word in
    rw (fields-first line, three) (one_more (length (fields_after line 3)))
  where
    one_more : (n : ℕ) → eqb (suc n) 7 ≡ eqb n 6
    one_more n = go (eqb n 6) refl
      where
        go : (t : Bool) → eqb n 6 ≡ t → eqb (suc n) 7 ≡ t
        go true e = eq-eqb (suc n) 7 (omega (arith, eqb-true n 6 e))
        go false e = ne_eqb (suc n) 7 (λ h. eqb-false n 6 e (omega arith))

-- The row of the numbers has 0 for SMEP where the line says nothing of it.
sixth-number : (more : List (List ℕ)) {values : List ℕ} → numbers_after 5 more ≡ Ok values → get_or values 5 0 ≡ 0
sixth-number more h =
    let (numbers, found, counted, held) = row-held 5 more h in
    ap (λ (l : List ℕ). get_or l 5 0) held ∙ stored-number numbers 5 (omega arith) ∙ get_or-eq_default numbers 0 (omega arith)

pub first_made : (seventh : Bool) (more : List (List ℕ)) {values : List ℕ} → numbers_after (first_form seventh).count more ≡ Ok values
    → first_line (get_or values 0 0) (get_or values 1 0) (get_or values 2 0) (get_or values 3 0) (get_or values 4 0) (get_or values 5 0)
    ≡ made (first_form seventh).count (first_form seventh).value 0 values
first_made true more h = refl
first_made false more {values} h = ap (first_line (get_or values 0 0) (get_or values 1 0) (get_or values 2 0) (get_or values 3 0) (get_or values 4 0)) (sixth-number more h)
