-- Laws of the first record: how many fields a line has, and what it says then. Assumes nothing.
use Rattle.std.specs.Prelude.{Err, None, Ok}
use mathlib.Core.Bool.{Bool, true, false, cond}
use mathlib.Core.List.{List, [], ◌∷◌}
use mathlib.Core.Path.{◌≡◌, refl}
use Prim.Native.Nat.{ℕ, suc, ◌+◌, ◌≤◌, ◌<◌}
use native.Mathlib.Numerals.{add-one}
use native.Mathlib.Omega.{arith}
use lib.Dec.{eqb, ltb}
use lib.ListN.{drop, get_or, length}
use lib.Seq.{drop-cons}
use borrow.Author.Tests.{eq-eqb, ne_eqb}
use Rattle.records.specs.Reading.{first_record, from_first}
use Rattle.model.specs.declared.answer.Refusal.TheVariants.{LineTooLong, UnknownWord}
use Rattle.script.specs.Bytes.{bytes, same}
use Rattle.script.specs.First.{line_first, vsm}
use Rattle.script.specs.LineForms.{among, fields, in_form, in_front, said, said_in, tab}

front_length : (byte : ℕ) (more : List (List ℕ)) → 1 ≤ length more → length (in_front byte more) ≡ length more
front_length byte [] h = absurd (omega arith)
front_length byte (field ∷ more) h = refl

pub fields-some : (line : List ℕ) → 1 ≤ length (fields line)
unfolding fields
fields-some [] = omega arith
fields-some (byte ∷ line) = go (eqb byte tab) (fields-some line)
  where
    go : (b : Bool) → 1 ≤ length (fields line) → 1 ≤ length (cond b ([] ∷ fields line) (in_front byte (fields line)))
    go true h = omega arith
    go false h = omega (arith, front_length byte (fields line) h)

module _ (line : List ℕ) (i : ℕ) (h : i < length line) where
  pub fields-tab : get_or line i 0 ≡ tab → length (fields (drop i line)) ≡ 1 + length (fields (drop (i + 1) line))
  unfolding fields
  fields-tab e = rw (drop-cons line i 0 h, eq-eqb (get_or line i 0) tab e, add-one i) (omega arith)

  pub fields-other : (get_or line i 0 ≡ tab → ⊥) → length (fields (drop i line)) ≡ length (fields (drop (i + 1) line))
  unfolding fields
  fields-other e =
      rw (drop-cons line i 0 h, ne_eqb (get_or line i 0) tab e, add-one i) (front_length (get_or line i 0) (fields (drop (suc i) line)) (fields-some (drop (suc i) line)))

-- With seven fields it is what a first line says; with any other number it says nothing.
pub first-right : (line : List ℕ) → length (fields line) ≡ 7 → line_first line ≡ first_record line
unfolding line_first first_record
first-right line e = rw (eq-eqb (length (fields line)) 7 e)

pub first-wrong : (line : List ℕ) → (length (fields line) ≡ 7 → ⊥) → (rest : List (List ℕ)) → from_first (first_record line) rest ≡ None
unfolding first_record said among
first-wrong line e rest = long (ltb 256 (length line)) (fields line) e
  where
    word : (b : Bool) (more : List (List ℕ)) → (length more ≡ 6 → ⊥)
        → from_first (cond b (in_form Ok Err vsm more) (Err UnknownWord)) rest ≡ None
    word true more k = rw (ne_eqb (length more) 6 k)
    word false more k = refl

    long : (b : Bool) (all : List (List ℕ)) → (length all ≡ 7 → ⊥)
        → from_first (cond b (Err LineTooLong) (said_in Ok Err (vsm ∷ []) all)) rest ≡ None
    long true all k = refl
    long false [] k = refl
    long false (first ∷ more) k = word (same first (bytes "vsm")) more (λ e. k (omega arith))
