-- Laws of a line number that is kept with its digits: how they are packed, counted up, and written. Assumes nothing.
use Rattle.std.proofs.Common.{rules, w64, ◌≡◌, ℕ, zero, suc, ◌+◌, ◌-◌, ◌*◌, ◌/◌, ◌%◌, ◌^◌, ◌<◌, ◌≤◌, Bool, true, false, cond, eqb, ltb, List, [], ◌∷◌, ◌++◌, length, set, sym, refl, ap, ◌∙◌, subst, append_assoc, pow-suc, add-one, arith, length-append, length-set, set-set, ltb-false, ltb-true, ne_eqb}
use native.Mathlib.Nat.{pow-le-pow_right}
use borrow.Rule.Slice.PartMut.{put_mid}
use lib.ListN.{drop, take}
use lib.Seq.{drop-drop, length-sets, sets}
use Rattle.std.proofs.lemmas.List.Edits.{sets-eq}
use Rattle.std.specs.Int.{to_le_bytes}
use Rattle.decimal.proofs.Digits.{last-digit, one-digit, text-length}
use Rattle.decimal.proofs.Writing.{set-sets}
use Rattle.decimal.specs.Write.{digits_before, digits_in, last_byte}
use Rattle.script.proofs.Cells.{cell-length}
use Rattle.script.proofs.StoredTexts.{sets-append}
use Rattle.script.specs.LineForms.{tab}
use Rattle.script.specs.ListingLine.{cell}
use Rattle.session.specs.LineNumbers.{Ahead, Numbered, leading, packed}
use Rattle.session.specs.declared.listing_record.LineNumber.{LineNumber}

-- The last digit of a number stands after those of its tenth.
digits_step : (n : ℕ) (rest : List ℕ) → n < 2 ^ 64 → digits_before n rest ≡ leading (n / 10) (last_byte n ∷ rest)
unfolding digits_before
digits_step n rest l = go (ltb n 10) refl
  where
    go : (t : Bool) → ltb n 10 ≡ t → digits_before n rest ≡ leading (n / 10) (last_byte n ∷ rest)
    go true e =
        let small = ltb-true n 10 e in
        let none_left : n / 10 ≡ 0 = omega arith in
        one-digit 19 n rest small ∙ rw none_left
    go false e = let large = ltb-false n 10 e in last-digit n rest large l ∙ rw (ne_eqb (n / 10) 0 (λ z. omega arith))

leading_step : (n : ℕ) (rest : List ℕ) → 0 < n → n < 2 ^ 64 → leading n rest ≡ leading (n / 10) (last_byte n ∷ rest)
leading_step n rest p l = rw (ne_eqb n 0 (λ z. omega arith)) (digits_step n rest l)

-- Bytes after the digits.
digits_append : (spare n : ℕ) (rest more : List ℕ) → digits_in spare n (rest ++ more) ≡ digits_in spare n rest ++ more
unfolding digits_in
digits_append zero n rest more = refl
digits_append (suc spare) n rest more = go (ltb n 10) (digits_append spare (n / 10) (last_byte n ∷ rest) more)
  where
    go : (t : Bool) → digits_in spare (n / 10) (last_byte n ∷ (rest ++ more)) ≡ digits_in spare (n / 10) (last_byte n ∷ rest) ++ more
        → cond t (last_byte n ∷ (rest ++ more)) (digits_in spare (n / 10) (last_byte n ∷ (rest ++ more)))
        ≡ cond t (last_byte n ∷ rest) (digits_in spare (n / 10) (last_byte n ∷ rest)) ++ more
    go true ih = refl
    go false ih = ih

leading-append : (n : ℕ) (more : List ℕ) → leading n more ≡ leading n [] ++ more
unfolding digits_before
leading-append n more = go (eqb n 0)
  where
    go : (t : Bool) → cond t more (digits_in 19 n more) ≡ cond t [] (digits_in 19 n []) ++ more
    go true = refl
    go false = digits_append 19 n [] more

number-cell : (n : ℕ) → n < 2 ^ 64 → cell n tab ≡ leading (n / 10) [] ++ last_byte n ∷ tab ∷ []
unfolding cell
number-cell n l = rw (digits_step n [] l, leading-append (n / 10) (last_byte n ∷ []), append_assoc)

-- The loop that packs digits keeps this.
pub record Packing (n word width rest : ℕ) : Type 0 where
  pub text : leading rest (packed width word) ≡ leading n []
  pub fits : word < 256 ^ width
  pub few : width ≤ 8
  pub small : rest < 10 ^ (8 - width)

pub packing-start : (n : ℕ) → n < 100000000 → Packing n 0 0 n
unfolding packed
packing-start n h = record { text = refl; fits = omega arith; few = omega arith; small = h }

module _ {n word width rest : ℕ} (w : Packing n word width rest) (some : 0 < rest) where
  pub width-left : width < 8
  width-left = go (ltb width 8) refl
    where
      go : (t : Bool) → ltb width 8 ≡ t → width < 8
      go true e = ltb-true width 8 e
      go false e =
          let full : 8 - width ≡ 0 = omega (arith, ltb-false width 8 e) in
          let none_left : rest < 10 ^ 0 = rw full at w.small in
          absurd (omega arith)

  rest-small : rest < 100000000
  rest-small = omega (arith, w.small, pow-le-pow_right {n = 10} (omega arith) {i = 8 - width} {j = 8} (omega arith))

  pub word_small : word < 2 ^ 56
  word_small = omega (arith, w.fits, pow-le-pow_right {n = 256} (omega arith) {i = width} {j = 7} (omega (arith, width-left)))

  pub packing-digit : Packing n (word * 256 + (48 + rest % 10)) (width + 1) (rest / 10)
  unfolding packed
  packing-digit =
      let low : (word * 256 + (48 + rest % 10)) % 256 ≡ last_byte rest = omega arith in
      let high : (word * 256 + (48 + rest % 10)) / 256 ≡ word = omega arith in
      let next : 8 - width ≡ suc (8 - (width + 1)) = omega (arith, width-left) in
      let below : rest < 10 ^ suc (8 - (width + 1)) = rw next at w.small in
      record {
        text = rw (add-one width, low, high) (sym (leading_step rest (packed width word) some (omega (arith, rest-small))) ∙ w.text);
        fits = rw (add-one width) (omega (arith, w.fits, pow-suc 256 width));
        few = omega (arith, width-left);
        small = omega (arith, below, pow-suc 10 (8 - (width + 1)));
      }

pub packing-end : {n word width rest : ℕ} → Packing n word width rest → rest ≡ 0 → packed width word ≡ leading n []
packing-end w e = rw e at w.text

-- Bytes that are stored from a place on and then covered.
sets_over : (out : List ℕ) (at : ℕ) (under over : List ℕ) → length under ≤ length over → sets (sets out at under) at over ≡ sets out at over
sets_over out at [] over h = refl
sets_over out at (x ∷ under) [] h = absurd (omega arith)
sets_over out at (x ∷ under) (y ∷ over) h =
    rw (set-sets (set out at x) at (suc at) y under (omega arith), set-set) (sets_over (set out at y) (suc at) under over (omega arith))

covered : (out : List ℕ) (at : ℕ) (front under over : List ℕ) → length under ≤ length over
    → sets (sets out at (front ++ under)) (at + length front) over ≡ sets out at (front ++ over)
covered out at front under over h =
    ap (λ (l : List ℕ). sets l (at + length front) over) (sym (sets-append front out at under))
    ∙ sets_over (sets out at front) (at + length front) under over h
    ∙ sets-append front out at over

packed-length : (width word : ℕ) → length (packed width word) ≡ width
unfolding packed
packed-length zero word = refl
packed-length (suc width) word = ap suc (packed-length width (word / 256))

packed-split : (width more total word : ℕ) → total ≡ width + more
    → (under : List ℕ) × (packed total word ≡ packed width word ++ under) × (length under ≡ more)
unfolding packed
packed-split zero more total word e = (packed total word, refl, packed-length total word ∙ omega arith)
packed-split (suc width) more zero word e = absurd (omega arith)
packed-split (suc width) more (suc total) word e =
    let (under, same, n) = packed-split width more total (word / 256) (omega arith) in
    (under, ap (λ (l : List ℕ). word % 256 ∷ l) same, n)

-- A line number was written: its digits before the last with more bytes, the last, and a tab.
pub number-ahead : (out : List ℕ) (at width word last n : ℕ) → width ≤ 8
    → (n < 1000000000) × (packed width word ≡ leading (n / 10) []) × (last ≡ last_byte n)
    → record {
      value : at + width + 2 ≡ at + length (cell n tab);
      ahead : Ahead out at (cell n tab) (set (set (sets out at (packed 8 word)) (at + width) last) (at + width + 1) tab);
    }
number-ahead out at width word last n few (small, digits, final) =
    let text : cell n tab ≡ packed width word ++ last ∷ tab ∷ [] = rw (digits, final) (number-cell n (omega arith)) in
    let size : length (cell n tab) ≡ width + 2 = ap length text ∙ length-append (packed width word) (last ∷ tab ∷ []) ∙ omega (arith, packed-length width word) in
    let (under, whole, left) = packed-split width (8 - width) 8 word (omega arith) in record {
      value = omega (arith, size);
      ahead = record {
        size = simp (length-set, length-sets);
        ahead = λ more long.
            let end : at + length (cell n tab) ≡ suc (suc (at + width)) = omega (arith, size) in
            let front : at + width ≡ at + length (packed width word) = omega (arith, packed-length width word) in
            rw (end, add-one (at + width), text, append_assoc, whole, front)
            (covered out at (packed width word) under (last ∷ tab ∷ more) (omega (arith, left)));
      };
    }

-- What a line number says of its own number.
pub own-number : {line : LineNumber} {n : ℕ} → Numbered line n → Numbered line line.number
own-number {line} w = subst (λ (k : ℕ). Numbered line k) (sym w.number) w

-- A cell has 2 to 21 bytes.
pub cell-size : (n closing : ℕ) → (2 ≤ length (cell n closing)) × (length (cell n closing) ≤ 21)
cell-size n closing = omega (arith, cell-length n closing, text-length n)

-- The bytes of a word are its packed digits; they take the eight places that they are copied over.
pub word-bytes : (word : ℕ) → to_le_bytes w64 word ≡ packed 8 word
unfolding packed
word-bytes word = search (rules, arith)

pub stored-eight : (out : List ℕ) (at : ℕ) (part bytes : List ℕ) → length bytes ≡ 8 → at + 8 ≤ length out → part ≡ bytes
    → put_mid at (at + 8 - at) out part ≡ sets out at bytes
stored-eight out at part bytes count fits e =
    let size : at + 8 - at ≡ 8 = omega arith in
    let cut : sets out at bytes ≡ take at out ++ bytes ++ drop (at + length bytes) out = sets-eq bytes out at (omega (arith, count)) in
    rw (e, size, drop-drop) (sym (rw (count, append_assoc) at cut))

pub stored-word : (out : List ℕ) (at word : ℕ) (part : List ℕ) → at + 8 ≤ length out → part ≡ to_le_bytes w64 word
    → put_mid at (at + 8 - at) out part ≡ sets out at (packed 8 word)
stored-word out at word part fits e = stored-eight out at part (packed 8 word) (packed-length 8 word) fits (e ∙ word-bytes word)
