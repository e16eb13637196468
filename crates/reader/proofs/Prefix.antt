-- The first 64 KB of an input say all that its records say. Assumes nothing.
use Rattle.std.specs.Prelude.{Err, None, Ok, Option, Result, Some}
use mathlib.Core.Bool.{Bool, true, false, cond}
use mathlib.Core.List.{List, [], ◌∷◌, ◌++◌, append_assoc}
use mathlib.Core.Path.{◌≡◌, refl, sym, ap, ◌∙◌}
use Prim.Native.Nat.{ℕ, ◌≤◌}
use native.Mathlib.Omega.{arith}
use lib.ListN.{drop, length, length-append, take, take-append-drop}
use lib.Seq.{drop_at, take-append-le, take_at}
use Rattle.chunk.proofs.ChunkLines.{joined, lines-joined}
use Rattle.model.specs.declared.machine.Setup.{Setup}
use Rattle.model.specs.Fresh.{admissible}
use Rattle.model.specs.State.{State}
use Rattle.model.specs.WellFormed.{well_formed}
use Rattle.script.specs.ListingLine.{line_feed}
use Rattle.script.specs.Records.{last_line, lines, lines_in}
use Rattle.script.specs.Texts.{first_line_of}
use Rattle.state.specs.Lent.{setup_of}
use Rattle.records.specs.declared.place.Place.{Place}
use Rattle.records.specs.Places.{places}
use Rattle.records.specs.Reading.{Passed, Taken, first_record, followed, from_first, from_taken, line_value, passed_on, state_of_values, taking}
use Rattle.records.specs.RecordTexts.{ended, first_of, lines_at, record_lines, records_text}
use Rattle.records.specs.Values.{setup_at, state_from, value_at}
use Rattle.records.proofs.SameBytes.{only-records, text-lines}
use Rattle.records.proofs.Lengths.{short-text}
use Rattle.records.proofs.RecordLines.{no-some, some_same}
use Rattle.reader.specs.ReaderClaims.{ReadPrefix, ReadShort, UsedShort, goes_on}
use Rattle.reader.specs.Received.{state_in}
use Rattle.reader.proofs.Receiving.{lines-count}
use Rattle.model.specs.declared.answer.Refusal.{Refusal}
use Rattle.model.specs.declared.machine.FirstLine.{FirstLine}

pub read_short : ReadShort
read_short input r h = short-text r.state (only-records input r h).formed

pub used-short : UsedShort
used-short input r e used =
    omega (arith, used, read_short input (record { state = state_in r; rest = lines (drop r.used input) }) (sym e))

-- The bytes begin with `front`.
pub record Begins (bytes front : List ℕ) : Type 0 where
  pub tail : List ℕ
  pub same : bytes ≡ front ++ tail

no_line : {A : Type 0} {l : List ℕ} {ls : List (List ℕ)} → [] ≡ l ∷ ls → A
no_line h = absurd (let z : ◌≡◌ {A = ℕ} 0 1 = cc in omega arith)

line-begins : (k l j front tail : List ℕ) → k ≡ l → j ≡ front ++ tail → k ++ line_feed ∷ j ≡ (l ++ line_feed ∷ front) ++ tail
line-begins k l j front tail e f = rw (e, f) (sym (append_assoc l (line_feed ∷ front) tail))

joined-begins : (ls complete : List (List ℕ)) (rest : List ℕ) (more : List (List ℕ)) → complete ++ last_line rest ≡ ls ++ more
    → length (ended ls) ≤ length (joined complete rest) → Begins (joined complete rest) (ended ls)
unfolding joined ended
joined-begins [] complete rest more e h = record { tail = joined complete rest; same = refl }
joined-begins (l ∷ ls) [] [] more e h = no_line e
joined-begins (l ∷ ls) [] (byte ∷ rest) more e h =
    let same : byte ∷ rest ≡ l = cc in
    absurd (omega (arith, ap length same, length-append l (line_feed ∷ ended ls)))
joined-begins (l ∷ ls) (k ∷ complete) rest more e h =
    let same : k ≡ l = cc in
    let others : complete ++ last_line rest ≡ ls ++ more = cc in
    let b = joined-begins ls complete rest more others
    (omega (arith, ap length same, length-append l (line_feed ∷ ended ls), length-append k (line_feed ∷ joined complete rest))) in
    record {
      tail = b.tail;
      same = line-begins k l (joined complete rest) (ended ls) b.tail same b.same;
    }

pub begins : (bytes : List ℕ) (ls more : List (List ℕ)) → lines bytes ≡ ls ++ more → length (ended ls) ≤ length bytes → Begins bytes (ended ls)
unfolding lines
begins bytes ls more e h =
    let whole = lines-joined bytes in
    rw whole at (joined-begins ls (lines_in bytes).complete (lines_in bytes).rest more e (rw whole h))

-- The lines behind the records may be any others.
with_rest : List (List ℕ) → Option Taken → Option Taken
with_rest rest None = None
with_rest rest (Some t) = Some (record { values = t.values; rest = rest })

taking-rest : (ps : List Place) (ls rest other : List (List ℕ)) → length ls ≡ length ps → taking ps (ls ++ other) ≡ with_rest other (taking ps (ls ++ rest))
unfolding taking with_rest
taking-rest [] [] rest other e = refl
taking-rest [] (l ∷ ls) rest other e = absurd (omega arith)
taking-rest (p ∷ ps) [] rest other e = absurd (omega arith)
taking-rest (p ∷ ps) (l ∷ ls) rest other e = rw (taking-rest ps ls rest other (omega arith)) (go (line_value p l) (taking ps (ls ++ rest)))
  where
    go : (x : Option ℕ) (t : Option Taken) → followed x (with_rest other t) ≡ with_rest other (followed x t)
    go None t = refl
    go (Some x) None = refl
    go (Some x) (Some t) = refl

module _ (ls rest other : List (List ℕ)) (r : Passed) (n : length ls ≡ length (places (setup_at r.state))) where
  formed-rest : (c : Setup) (t : Taken) (b : Bool) → well_formed (state_of_values c t.values) ≡ b
      → cond b (Some (record { state = state_of_values c t.values; rest = t.rest })) None ≡ Some r → taking (places c) (ls ++ rest) ≡ Some t
      → from_taken c (taking (places c) (ls ++ other)) ≡ Some (record { state = r.state; rest = other })
  unfolding state_of_values state_from with_rest
  formed-rest c t false w e k = no-some e
  formed-rest c t true w e k =
      let s : State = state_of_values c t.values in
      let same : s ≡ r.state = ap (λ (p : Passed). p.state) (some_same e) in
      let count : length ls ≡ length (places c) = n ∙ sym (ap (λ (s : State). length (places (setup_at s))) same) in
      rw (taking-rest (places c) ls rest other count, k, w) (ap (λ (s : State). Some (record { state = s; rest = other })) same)

  taken-rest : (c : Setup) (t : Option Taken) → taking (places c) (ls ++ rest) ≡ t → from_taken c t ≡ Some r
      → from_taken c (taking (places c) (ls ++ other)) ≡ Some (record { state = r.state; rest = other })
  taken-rest c None k e = no-some e
  taken-rest c (Some t) k e = formed-rest c t (well_formed (state_of_values c t.values)) refl e k

  first_rest : (f : Result FirstLine Refusal) → from_first f (ls ++ rest) ≡ Some r → from_first f (ls ++ other) ≡ Some (record { state = r.state; rest = other })
  first_rest (Err x) e = no-some e
  first_rest (Ok f) e = go (admissible f) refl e
    where
      go : (b : Bool) → admissible f ≡ b → cond b (from_taken (setup_of f) (taking (places (setup_of f)) (ls ++ rest))) None ≡ Some r
          → cond b (from_taken (setup_of f) (taking (places (setup_of f)) (ls ++ other))) None ≡ Some (record { state = r.state; rest = other })
      go false a e = no-some e
      go true a e = taken-rest (setup_of f) (taking (places (setup_of f)) (ls ++ rest)) refl e

-- Where records are accepted, the text of their state is, and any script may follow it.
pub accepts : (input : List ℕ) (r : Passed) → passed_on (lines input) ≡ Some r → (script : List ℕ)
    → passed_on (lines (records_text r.state ++ script)) ≡ Some (record { state = r.state; rest = lines script })
unfolding passed_on record_lines
accepts input r h script =
    let s = r.state in
    let first = first_line_of (first_of (setup_at s)) in
    let others = lines_at (value_at s) (places (setup_at s)) in
    let gave : passed_on (first ∷ others ++ r.rest) ≡ Some r = sym (ap passed_on (only-records input r h).these) ∙ h in
    ap passed_on (text-lines s script)
    ∙ first_rest others r.rest (lines script) r (lines-count (value_at s) (places (setup_at s))) (first_record first) gave

-- An input that begins with the text of a state.
module _ (input more : List ℕ) (s : State) (h : length (records_text s) ≤ length input) where
  begun-whole : Begins (input ++ more) (records_text s) → Begins input (records_text s)
  begun-whole b = record {
    tail = drop (length (records_text s)) input;
    same =
        sym (take-append-drop (length (records_text s)) input)
        ∙ ap (λ (l : List ℕ). l ++ drop (length (records_text s)) input)
        (sym (take-append-le (length (records_text s)) input more h) ∙ ap (take (length (records_text s))) b.same
        ∙ take_at (records_text s) b.tail (length (records_text s)) refl);
  }

pub read-prefix : ReadPrefix
unfolding records_text
read-prefix input more big = go (passed_on (lines input)) refl
  where
    short : (text : List ℕ) (r : Passed) → passed_on (lines text) ≡ Some r → length (records_text r.state) ≤ length input
    short text r h = omega (arith, read_short text r h)

    here : (text : List ℕ) (r : Passed) → length input ≤ length text → passed_on (lines text) ≡ Some r → Begins text (records_text r.state)
    here text r l h = begins text (record_lines r.state) r.rest (only-records text r h).these (omega (arith, short text r h))

    other : (o : Option Passed) → passed_on (lines input) ≡ None → passed_on (lines (input ++ more)) ≡ o → o ≡ None
    other None e h = refl
    other (Some r) e h =
        let b = begun-whole input more r.state (short (input ++ more) r h) (here (input ++ more) r (omega (arith, length-append input more)) h) in
        no-some (sym e ∙ ap (λ (l : List ℕ). passed_on (lines l)) b.same ∙ accepts (input ++ more) r h b.tail)

    go : (o : Option Passed) → passed_on (lines input) ≡ o → passed_on (lines (input ++ more)) ≡ goes_on input more o
    go None e = other (passed_on (lines (input ++ more))) e refl
    go (Some r) e =
        let b = here input r (omega arith) e in
        let s = r.state in
        let rest : drop (length (records_text s)) input ≡ b.tail = ap (drop (length (records_text s))) b.same ∙ drop_at (records_text s) b.tail (length (records_text s)) refl in
        ap (λ (l : List ℕ). passed_on (lines (l ++ more))) b.same ∙ ap (λ (l : List ℕ). passed_on (lines l)) (append_assoc (records_text s) b.tail more)
        ∙ accepts input r e (b.tail ++ more) ∙ rw rest
