-- Laws of the fields of a sheet that are shown one a line. Assumes nothing.
use mathlib.Core.Bool.{Bool, true, false, cond}
use mathlib.Core.List.{List, [], ◌∷◌, ◌++◌, append_assoc, append-nil}
use mathlib.Core.Path.{◌≡◌, refl, sym, ap, ◌∙◌}
use Prim.Native.Nat.{ℕ, suc, ◌+◌, ◌≤◌, ◌<◌}
use native.Mathlib.Numerals.{add-one}
use native.Mathlib.Omega.{arith}
use Rattle.std.specs.List.{onto_first, slice_split}
use lib.Dec.{eqb}
use lib.ListN.{drop, drop_of_length-le, get_or, length, length-append, take}
use lib.Seq.{drop-cons}
use Rattle.records.specs.RecordTexts.{ended}
use Rattle.script.proofs.Cells.{Written, written-length, written_next}
use Rattle.script.proofs.FieldPlaces.{fields-first}
use Rattle.script.specs.LineForms.{fields, in_front, tab}
use Rattle.script.specs.ListingLine.{line_feed}
use Rattle.script.specs.NumberRows.{fields_after, until_tab}

-- They take as many bytes as the sheet, and one more: a line feed for each tab, and the last.
pub shown-length : (sheet : List ℕ) → length (ended (fields sheet)) ≡ length sheet + 1
unfolding fields ended
shown-length [] = refl
shown-length (byte ∷ sheet) = rw (fields-first sheet) (go (eqb byte tab) (take (until_tab sheet) sheet) (fields_after sheet (until_tab sheet)) (rw (fields-first sheet) at (shown-length sheet)))
  where
    go : (t : Bool) (field : List ℕ) (more : List (List ℕ)) → length (ended (field ∷ more)) ≡ length sheet + 1
        → length (ended (cond t ([] ∷ field ∷ more) (in_front byte (field ∷ more)))) ≡ suc (length sheet) + 1
    go true field more h = omega arith
    go false field more h = omega arith

-- The fields of a sheet are its parts from tab to tab.
pub parts-fields : (sheet : List ℕ) → slice_split (λ (b : ℕ). eqb b tab) sheet ≡ fields sheet
unfolding fields
parts-fields [] = refl
parts-fields (byte ∷ sheet) = rw (parts-fields sheet, in-front (fields sheet)) refl
  where
    in-front : (more : List (List ℕ)) → onto_first byte more ≡ in_front byte more
    in-front [] = refl
    in-front (field ∷ more) = refl

-- What the loop keeps: a text was shown, and with the fields after the first n it is all that is to be shown.
pub record Showing (buffer : List ℕ) (from : ℕ) (sheet out : List ℕ) (at n : ℕ) : Type 0 where
  pub text : List ℕ
  pub written : Written buffer from text at out
  pub whole : ended (fields sheet) ≡ text ++ ended (drop n (fields sheet))

pub none-shown : (buffer : List ℕ) (from : ℕ) (sheet : List ℕ) → Showing buffer from sheet buffer from 0
none-shown buffer from sheet = record { text = []; written = record { value = omega arith; out_after = refl }; whole = refl }

module _ {buffer : List ℕ} {from : ℕ} {sheet out : List ℕ} {at n : ℕ} (w : Showing buffer from sheet out at n) where
  -- The field that is shown next.
  module _ (field : List ℕ) (there : (n < length (fields sheet)) × (field ≡ get_or (fields sheet) n field)) where
    next-fields : ended (drop n (fields sheet)) ≡ (field ++ line_feed ∷ []) ++ ended (drop (n + 1) (fields sheet))
    unfolding ended
    next-fields =
        rw (drop-cons (fields sheet) n field there.0, ← there.1, add-one n)
        (sym (append_assoc field (line_feed ∷ []) (ended (drop (suc n) (fields sheet)))))

    pub field_room : from + length (ended (fields sheet)) ≤ length buffer → at + length (field ++ line_feed ∷ []) ≤ length out
    field_room room =
        omega (
          arith,
          w.written.value,
          written-length buffer from w.text w.written,
          ap length w.whole,
          length-append w.text (ended (drop n (fields sheet))),
          ap length next-fields,
          length-append (field ++ line_feed ∷ []) (ended (drop (n + 1) (fields sheet))),
        )

    pub one-shown : {next m : ℕ} {last : List ℕ} → m ≡ n + 1 → Written out at (field ++ line_feed ∷ []) next last
        → Showing buffer from sheet last next m
    one-shown {next} {m} {last} e shown = rw e record {
      text = w.text ++ (field ++ line_feed ∷ []);
      written = written_next buffer from w.text (field ++ line_feed ∷ []) w.written shown;
      whole =
          w.whole ∙ ap (λ (l : List ℕ). w.text ++ l) next-fields
          ∙ sym (append_assoc w.text (field ++ line_feed ∷ []) (ended (drop (n + 1) (fields sheet))));
    }

  -- There is no field more.
  pub all_shown : n ≡ length (fields sheet) → Written buffer from (ended (fields sheet)) at out
  unfolding ended
  all_shown e =
      let nothing : ended (drop n (fields sheet)) ≡ [] = let past : length (fields sheet) ≤ n = omega (arith, e) in rw (drop_of_length-le (fields sheet) past) in
      let whole : ended (fields sheet) ≡ w.text = w.whole ∙ ap (λ (l : List ℕ). w.text ++ l) nothing ∙ append-nil w.text in
      rw whole w.written
