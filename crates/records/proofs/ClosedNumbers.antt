-- Laws of numbers that have a tab each, and of the front of a record, which ends in such numbers. Assumes nothing.
use mathlib.Core.Path.{◌≡◌, refl, sym, ap, ◌∙◌}
use mathlib.Core.List.{List, [], ◌∷◌, ◌++◌, append_assoc, append-nil}
use Prim.Native.Nat.{ℕ, zero, suc, ◌+◌, ◌<◌}
use native.Mathlib.Numerals.{add-one}
use lib.ListN.{drop, get_or, length, take}
use lib.Seq.{take-suc}
use Rattle.script.specs.LineForms.{tab}
use Rattle.script.specs.ListingLine.{cell}
use Rattle.records.specs.Places.{Place}
use Rattle.records.specs.RecordTexts.{closed, front, head_of}

-- One number more with its tab.
closed-append : (numbers : List ℕ) (n : ℕ) → closed (numbers ++ n ∷ []) ≡ closed numbers ++ cell n tab
unfolding closed
closed-append [] n = append-nil (cell n tab)
closed-append (m ∷ numbers) n = ap (λ (l : List ℕ). cell m tab ++ l) (closed-append numbers n) ∙ sym (append_assoc (cell m tab) (closed numbers) (cell n tab))

pub closed-step : (numbers : List ℕ) (i : ℕ) → i < length numbers → closed (take i numbers) ++ cell (get_or numbers i 0) tab ≡ closed (take (i + 1) numbers)
closed-step numbers i h =
    sym (closed-append (take i numbers) (get_or numbers i 0)) ∙ ap closed (sym (take-suc numbers i 0 h) ∙ ap (λ (j : ℕ). take j numbers) (sym (add-one i)))

-- The first of them, and the others.
pub closed_parts : (numbers : List ℕ) (i : ℕ) → closed (take i numbers) ++ closed (drop i numbers) ≡ closed numbers
unfolding closed
closed_parts numbers zero = refl
closed_parts [] (suc i) = refl
closed_parts (n ∷ numbers) (suc i) =
    append_assoc (cell n tab) (closed (take i numbers)) (closed (drop i numbers)) ∙ ap (λ (l : List ℕ). cell n tab ++ l) (closed_parts numbers i)

-- The front of a record: its word with the tab, and its indices.
pub front-parts : (p : Place) → ((head_of p).word ++ tab ∷ []) ++ closed (head_of p).indices ≡ front p
unfolding front
front-parts p = append_assoc (head_of p).word (tab ∷ []) (closed (head_of p).indices)
