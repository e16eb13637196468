-- Laws of the whole: the first record, the state that must be well formed, and the bytes that the records take. Assumes nothing.
use Rattle.std.specs.Prelude.{Err, None, Ok, Option, Result, Some}
use mathlib.Core.Bool.{Bool, true, false, ◌&&◌}
use mathlib.Core.List.{List, [], ◌∷◌}
use mathlib.Core.Path.{◌≡◌, refl, sym, ap, ◌∙◌}
use Prim.Native.Nat.{ℕ, suc, ◌+◌, ◌-◌, ◌≤◌, ◌<◌, min}
use native.Mathlib.Omega.{arith}
use lib.Dec.{leb}
use lib.ListN.{drop, length, take}
use lib.Seq.{take_at}
use borrow.Author.Tests.{leb-true}
use Rattle.chunk.specs.Chunk.{line_end}
use Rattle.model.specs.declared.answer.Refusal.{Refusal}
use Rattle.model.specs.declared.machine.FirstLine.{FirstLine}
use Rattle.model.specs.declared.machine.Setup.{Setup}
use Rattle.model.specs.Fresh.{admissible}
use Rattle.model.specs.Masks.{valid_mask}
use Rattle.model.specs.State.{State, in_range, top}
use Rattle.model.proofs.Bools.{and_left, hold}
use Rattle.script.specs.Records.{lines, lines_in}
use Rattle.state.specs.Lent.{machine_of, setup_of}
use Rattle.records.specs.declared.place.Place.{Place}
use Rattle.records.specs.Places.{places}
use Rattle.records.specs.Reading.{first_record, from_first, passed_on}
use Rattle.records.specs.RecordTexts.{ended, lines_at, record_lines, records_text}
use Rattle.records.specs.Values.{setup_at, value_at}
use Rattle.records.proofs.SameBytes.{only-records}
use Rattle.reader.specs.Received.{Few, Passes, Placed, Used, passed_in, state_in, wanted}
use Rattle.reader.specs.declared.Received.{Received}
use Rattle.reader.proofs.Cut.{lines_next, passes-both, passes-one}

pub empty-none : (input : List ℕ) → length input ≡ 0 → passed_on (lines input) ≡ None
unfolding passed_on lines lines_in
empty-none [] h = refl
empty-none (byte ∷ input) h = absurd (omega arith)

-- The first record.
module _ (input : List ℕ) (end : ℕ) (e : end ≡ line_end input 0) (h : 0 < length input) where
  pub first_passes : Passes input 1 (min (end + 1) (length input))
  first_passes = let same : min (end + 1) (length input) - 0 ≡ min (end + 1) (length input) = omega arith in rw same at (passes-one input 0 end e h)

  module _ (r : Result FirstLine Refusal) (says : (rest : List (List ℕ)) → from_first r rest ≡ from_first (first_record (take end input)) rest) where
    first-passed : passed_on (lines input) ≡ from_first r (lines (drop (min (end + 1) (length input)) input))
    unfolding passed_on
    first-passed =
        let same : end - 0 ≡ end = omega arith in
        ap passed_on (lines_next input 0 end e h) ∙ rw same (sym (says (lines (drop (min (end + 1) (length input)) input))))

    pub first-malformed : (x : Refusal) → r ≡ Err x → passed_on (lines input) ≡ None
    first-malformed x k = first-passed ∙ rw k

    pub first-refused : (f : FirstLine) → r ≡ Ok f → admissible f ≡ false → passed_on (lines input) ≡ None
    first-refused f k a = first-passed ∙ rw (k, a)

    pub first_taken : (f : FirstLine) → r ≡ Ok f → admissible f ≡ true → passed_on (lines input) ≡ wanted (setup_of f) input (min (end + 1) (length input))
    first_taken f k a = first-passed ∙ rw (k, a)

pub few-of : (f : FirstLine) → admissible f ≡ true → Few (setup_of f)
unfolding admissible in_range top
few-of f h =
    let sizes : Bool = in_range f.processors f.max_level.0 f.pages in
    let masked = and_left (sizes && leb f.dr6_shared 1 && valid_mask f.host_mask) (leb f.smep 1) h in
    let all = hold _ (and_left sizes (leb f.dr6_shared 1) (and_left (sizes && leb f.dr6_shared 1) (valid_mask f.host_mask) masked)) in
    (leb-true f.processors 4 all.1.0, leb-true f.max_level.0 3 all.1.1.0, leb-true f.pages 64 all.1.1.1.1.0)

-- The records of a state are as many as its places, and the first.
pub lines-count : (g : Place → ℕ) (ps : List Place) → length (lines_at g ps) ≡ length ps
lines-count g [] = refl
lines-count g (p ∷ ps) = ap suc (lines-count g ps)

records-count : (s : State) → length (record_lines s) ≡ 1 + length (places (setup_at s))
unfolding record_lines
records-count s = omega (arith, lines-count (value_at s) (places (setup_at s)))

-- The bytes used are the text of the records, but for a last line feed that is not there.
pub used-is : (input : List ℕ) (r : Received) (c : Setup) (next : ℕ) → passed_in (Some r) input ≡ passed_on (lines input) → Passes input 1 next
    → (r.setup ≡ c) × (next ≤ r.used) × Passes (drop next input) (length (places c)) (r.used - next)
    → r.used ≡ min (length (records_text (state_in r))) (length input)
unfolding machine_of records_text
used-is input r c next e one (same, low, more) =
    let s = state_in r in
    let far : next + (r.used - next) ≡ r.used = omega arith in
    let all : Passes input (1 + length (places c)) r.used = rw far at (passes-both one more) in
    let gave : passed_on (lines input) ≡ Some (record { state = s; rest = lines (drop r.used input) }) = sym e in
    let exact = only-records input (record { state = s; rest = lines (drop r.used input) }) gave in
    let count : length (record_lines s) ≡ 1 + length (places c) = records-count s ∙ ap (λ (c : Setup). 1 + length (places c)) same in
    let these : all.passed ≡ record_lines s =
    sym (take_at all.passed (lines (drop r.used input)) (1 + length (places c)) all.counted)
    ∙ ap (take (1 + length (places c))) (sym all.split ∙ exact.these)
    ∙ take_at (record_lines s) (lines (drop r.used input)) (1 + length (places c)) count in
    all.place ∙ ap (λ (ls : List (List ℕ)). min (length (ended ls)) (length input)) these

-- What was received is what the records say, and how many bytes they take.
pub used-received : (input : List ℕ) (r : Option Received) (c : Setup) (next : ℕ) → passed_in r input ≡ passed_on (lines input) → Passes input 1 next
    → Placed c next r input → Used r input
used-received input None c next e one placed = tt
used-received input (Some r) c next e one placed = used-is input r c next e one placed
