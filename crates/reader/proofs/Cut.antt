-- Laws of the lines that are passed: how many bytes they take. Assumes nothing.
use mathlib.Core.Bool.{Bool, true, false}
use mathlib.Core.List.{List, [], ◌∷◌, ◌++◌, append_assoc}
use mathlib.Core.Path.{◌≡◌, refl, sym, ap, ◌∙◌}
use Prim.Native.Nat.{ℕ, ◌+◌, ◌-◌, ◌≤◌, ◌<◌, min}
use native.Mathlib.Omega.{arith}
use lib.Dec.{ltb}
use lib.ListN.{drop, drop_of_length-le, length, length-append, length-drop, length-take, take}
use lib.Seq.{drop-cons, drop-drop, take_all}
use borrow.Author.Tests.{ltb-false, ltb-true}
use Rattle.chunk.specs.Chunk.{line_end}
use Rattle.chunk.proofs.ChunkLines.{end-within, lines_from, lines-last}
use Rattle.records.specs.RecordTexts.{ended}
use Rattle.script.specs.ListingLine.{line_feed}
use Rattle.script.specs.Records.{lines, lines_in}
use Rattle.reader.specs.Received.{Passes}

pub passes_none : (bytes : List ℕ) → Passes bytes 0 0
unfolding ended
passes_none bytes = record { passed = []; counted = refl; split = refl; place = omega arith }

pub ended-append : (a b : List (List ℕ)) → length (ended (a ++ b)) ≡ length (ended a) + length (ended b)
unfolding ended
ended-append [] b = omega arith
ended-append (line ∷ a) b =
    omega (arith, length-append line (line_feed ∷ ended (a ++ b)), length-append line (line_feed ∷ ended a), ended-append a b)

-- Some lines, and then others.
pub passes-both : {bytes : List ℕ} {i j n k : ℕ} → Passes bytes i n → Passes (drop n bytes) j k → Passes bytes (i + j) (n + k)
passes-both {bytes} {i} {j} {n} {k} a b = record {
  passed = a.passed ++ b.passed;
  counted = length-append a.passed b.passed ∙ omega (arith, a.counted, b.counted);
  split =
      a.split ∙ ap (λ (l : List (List ℕ)). a.passed ++ l) b.split ∙ sym (append_assoc a.passed b.passed (lines (drop k (drop n bytes))))
      ∙ ap (λ (l : List ℕ). (a.passed ++ b.passed) ++ lines l) (drop-drop k n bytes);
  place = omega (arith, a.place, b.place, ended-append a.passed b.passed, length-drop n bytes);
}

-- One line, which ends at a line feed or at the end of the input.
module _ (input : List ℕ) (at end : ℕ) (e : end ≡ line_end input at) (h : at < length input) where
  abbrev line : List ℕ
  line = take (end - at) (drop at input)

  abbrev next : ℕ
  next = min (end + 1) (length input)

  inside : (at ≤ end) × (end ≤ length input)
  inside = omega (arith, end-within input at (omega arith))

  line-feed : end < length input → lines (drop at input) ≡ line ∷ lines (drop (end + 1) input)
  unfolding lines
  line-feed k = rw (lines_from input at end e (omega arith) k)

  line-last : length input ≤ end → lines (drop at input) ≡ line ∷ []
  unfolding lines
  line-last k =
      let all : line ≡ drop at input = take_all (end - at) (drop at input) (omega (arith, length-drop at input)) in
      rw (lines-last input at end e (omega arith) k, all, drop-cons input at 0 h)

  pub lines_next : lines (drop at input) ≡ line ∷ lines (drop next input)
  unfolding lines lines_in
  lines_next = go (ltb end (length input)) refl
    where
      go : (b : Bool) → ltb end (length input) ≡ b → lines (drop at input) ≡ line ∷ lines (drop next input)
      go true k =
          let same : end + 1 ≡ next = omega (arith, ltb-true end (length input) k) in
          line-feed (ltb-true end (length input) k) ∙ ap (λ (i : ℕ). line ∷ lines (drop i input)) same
      go false k =
          let over : length input ≤ next = omega (arith, ltb-false end (length input) k) in
          line-last (ltb-false end (length input) k) ∙ ap (λ (l : List ℕ). line ∷ lines l) (sym (drop_of_length-le input over))

  pub passes-one : Passes (drop at input) 1 (next - at)
  unfolding ended
  passes-one = record {
    passed = line ∷ [];
    counted = refl;
    split =
        let same : at + (next - at) ≡ next = omega (arith, inside) in
        lines_next ∙ ap (λ (l : List ℕ). line ∷ lines l) (sym (drop-drop (next - at) at input ∙ ap (λ (i : ℕ). drop i input) same));
    place = omega (arith, inside, length-append line (line_feed ∷ []), length-take (end - at) (drop at input), length-drop at input);
  }
