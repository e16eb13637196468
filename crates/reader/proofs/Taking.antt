-- What is kept while the records are read along the walk: the parts stand for the quantities so far, and what is left of the lines and
-- of the places gives what the whole gives. Assumes nothing.
use Rattle.std.specs.Prelude.{None, Option, Some}
use mathlib.Core.Bool.{Bool, true, false, cond}
use mathlib.Core.List.{List, [], ◌∷◌}
use mathlib.Core.Path.{◌≡◌, refl, sym, ap, ◌∙◌, fun_ext}
use Prim.Native.Nat.{ℕ, suc, ◌+◌, ◌-◌, ◌≤◌, ◌<◌, min}
use native.Mathlib.Omega.{arith}
use lib.Dec.{eqb, leb}
use lib.ListN.{drop, drop_of_length-le, length, take}
use lib.Seq.{drop-drop}
use borrow.Author.Tests.{eqb-true, leb-true, ne_eqb}
use Rattle.chunk.specs.Chunk.{line_end}
use Rattle.chunk.proofs.ChunkLines.{end-within}
use Rattle.model.specs.declared.machine.Setup.{Setup}
use Rattle.script.specs.Records.{lines, lines_in}
use Rattle.records.specs.declared.place.Place.{Place}
use Rattle.records.specs.Places.{end_rank, has, places, rank}
use Rattle.records.specs.Reading.{Passed, Taken, among, followed, formed_only, from_taken, is_flag, line_value, number_after, only, state_of_values, taken, taking}
use Rattle.records.specs.RecordTexts.{front}
use Rattle.records.specs.Values.{state_from}
use Rattle.records.specs.Walk.{next_of, to_level}
use Rattle.records.proofs.RecordLines.{no-some}
use Rattle.records.proofs.Sequence.{Run, Small, places-run}
use Rattle.records.proofs.Walks.{Walk, due_rank, not-ended, places-walk, rank_rises, run-below}
use Rattle.reader.specs.Received.{Few, Passes, blank_parts, state_of, wanted}
use Rattle.reader.specs.Slots.{Parts, Room, stored}
use Rattle.reader.proofs.Blank.{stands-blank}
use Rattle.reader.proofs.Cut.{lines_next, passes-both, passes_none, passes-one}
use Rattle.reader.proofs.Stands.{Stands, room_of, stands-state, stands-store, updated}

-- The quantities with those of some places put in, one after the other.
pub over : List Place → List ℕ → (Place → ℕ) → Place → ℕ
over [] xs g = g
over (p ∷ ps) [] g = g
over (p ∷ ps) (x ∷ xs) g = over ps xs (updated p x g)

-- What the rest of the lines gives, where some quantities are known.
pub finished : Setup → (Place → ℕ) → List Place → Option Taken → Option Passed
finished c g ps None = None
finished c g ps (Some t) = formed_only (state_from c (only c (over ps t.values g))) t.rest

only_same : (c : Setup) (f g : Place → ℕ) → ((p : Place) → has c p ≡ true → f p ≡ g p) → only c f ≡ only c g
unfolding only
only_same c f g h = fun_ext (λ p. go p (has c p) refl)
  where
    go : (p : Place) (b : Bool) → has c p ≡ b → cond b (f p) 0 ≡ cond b (g p) 0
    go p true e = h p e
    go p false e = refl

module _ (c : Setup) where
  over_below : (ps : List Place) (xs : List ℕ) (g : Place → ℕ) (q : Place) (lo hi : ℕ) → Run c lo ps hi → rank q < lo → over ps xs g q ≡ g q
  unfolding over
  over_below [] xs g q lo hi r h = refl
  over_below (p ∷ ps) [] g q lo hi r h = refl
  over_below (p ∷ ps) (x ∷ xs) g q lo hi (a, k, r) h =
      over_below ps xs (updated p x g) q (suc (rank p)) hi r (omega arith) ∙ rw (ne_eqb (rank q) (rank p) (λ e. omega arith))

  over-among : (ps : List Place) (xs : List ℕ) (g : Place → ℕ) (q : Place) (lo hi : ℕ) → Run c lo ps hi → g q ≡ 0 → over ps xs g q ≡ among ps xs q
  unfolding over among
  over-among [] xs g q lo hi r z = z
  over-among (p ∷ ps) [] g q lo hi r z = z
  over-among (p ∷ ps) (x ∷ xs) g q lo hi (a, k, r) z =
      go (eqb (rank q) (rank p)) refl (λ zero. over-among ps xs (updated p x g) q (suc (rank p)) hi r zero)
    where
      go : (b : Bool) → eqb (rank q) (rank p) ≡ b → (updated p x g q ≡ 0 → over ps xs (updated p x g) q ≡ among ps xs q)
          → over ps xs (updated p x g) q ≡ cond b x (among ps xs q)
      go true e more = over_below ps xs (updated p x g) q (suc (rank p)) hi r (omega (arith, eqb-true (rank q) (rank p) e)) ∙ rw e
      go false e more = more (rw e z)

  -- At the start nothing is known.
  finished-start : Small c → (ls : List (List ℕ)) → finished c (λ q. 0) (places c) (taking (places c) ls) ≡ from_taken c (taking (places c) ls)
  unfolding finished state_of_values
  finished-start few ls = go (taking (places c) ls)
    where
      go : (t : Option Taken) → finished c (λ q. 0) (places c) t ≡ from_taken c t
      go None = refl
      go (Some t) =
          ap (λ (g : Place → ℕ). formed_only (state_from c g) t.rest)
          (only_same c (over (places c) t.values (λ q. 0)) (among (places c) t.values)
          (λ q h. over-among (places c) t.values (λ q. 0) q 0 (end_rank c) (places-run c few) refl))

  finished-line : (g : Place → ℕ) (p : Place) (ps : List Place) (line : List ℕ) (ls : List (List ℕ)) (x : ℕ) → line_value p line ≡ Some x
      → finished c g (p ∷ ps) (taking (p ∷ ps) (line ∷ ls)) ≡ finished c (updated p x g) ps (taking ps ls)
  unfolding finished taking over
  finished-line g p ps line ls x e = rw e (go (taking ps ls))
    where
      go : (t : Option Taken) → finished c g (p ∷ ps) (followed (Some x) t) ≡ finished c (updated p x g) ps t
      go None = refl
      go (Some t) = refl

  finished-none : (g : Place → ℕ) (p : Place) (ps : List Place) (line : List ℕ) (ls : List (List ℕ)) → line_value p line ≡ None
      → finished c g (p ∷ ps) (taking (p ∷ ps) (line ∷ ls)) ≡ None
  unfolding finished taking
  finished-none g p ps line ls e = rw e

-- A quantity that is yes or no is 0 or 1.
value-flag : (p : Place) (line : List ℕ) (x : ℕ) → line_value p line ≡ Some x → is_flag p ≡ true → x ≤ 1
unfolding line_value
value-flag p line x h f = go (number_after (front p) line) (rw f at h)
  where
    small : (y : ℕ) (b : Bool) → leb y 1 ≡ b → cond b (Some y) None ≡ Some x → x ≤ 1
    small y true e k = let same : y ≡ x = cc in omega (arith, leb-true y 1 e)
    small y false e k = no-some k

    go : (n : Option ℕ) → taken true n ≡ Some x → x ≤ 1
    go None k = no-some k
    go (Some y) k = small y (leb y 1) refl k

pub record Reads (c : Setup) (input : List ℕ) (from : ℕ) (m : Parts) (at : ℕ) (due : Option Place) : Type 0 where
  pub few : Small c
  pub quantities : Place → ℕ
  pub rest : List Place
  pub lo : ℕ
  pub walk : Walk c due rest None
  pub run : Run c lo rest (end_rank c)
  pub stands : Stands c m quantities
  pub whole : finished c quantities rest (taking rest (lines (drop at input))) ≡ wanted c input from
  pub place : (from ≤ at) × (at ≤ length input)
  pub count : ℕ
  pub counts : count + length rest ≡ length (places c)
  pub passes : Passes (drop from input) count (at - from)

-- The record that is due.
pub record Due (c : Setup) (input : List ℕ) (from : ℕ) (m : Parts) (at : ℕ) (p : Place) : Type 0 where
  pub holds : has c p ≡ true
  pub room : Room p
  pub below : rank p < end_rank c
  pub rises : rank p < due_rank c (next_of c p)
  pub missing : length input ≤ at → wanted c input from ≡ None
  pub refused : (end : ℕ) → end ≡ line_end input at → at < length input → line_value p (take (end - at) (drop at input)) ≡ None → wanted c input from ≡ None
  pub taken : (end x : ℕ) → end ≡ line_end input at → at < length input → line_value p (take (end - at) (drop at input)) ≡ Some x
      → Reads c input from (stored p x m) (min (end + 1) (length input)) (next_of c p)

pub reads_at : {c : Setup} {input : List ℕ} {from : ℕ} {m : Parts} {at : ℕ} {p : Place} → Reads c input from m at (Some p) → Due c input from m at p
unfolding finished taking lines lines_in
reads_at {c} {input} {from} {m} {at} {p} s = go s.rest s.walk s.run s.whole s.counts
  where
    go : (rest : List Place) → Walk c (Some p) rest None → Run c s.lo rest (end_rank c)
        → finished c s.quantities rest (taking rest (lines (drop at input))) ≡ wanted c input from
        → s.count + length rest ≡ length (places c) → Due c input from m at p
    go [] w r e n = not-ended w
    go (q ∷ ps) w r e n =
        let same : q ≡ p = (let k = w.0 in cc) in
        let run : Run c (suc (rank p)) ps (end_rank c) = rw same at r.2 in
        let walk : Walk c (next_of c p) ps None = rw same at w.1 in
        let holds : has c p ≡ true = rw same at r.1 in
        let whole : finished c s.quantities (p ∷ ps) (taking (p ∷ ps) (lines (drop at input))) ≡ wanted c input from = rw same at e in
        record {
          holds = holds;
          room = room_of c p s.few holds;
          below = omega (arith, run-below c ps (suc (rank p)) (end_rank c) run);
          rises = rank_rises c p (next_of c p) ps walk run;
          missing = λ h. sym whole ∙ rw (drop_of_length-le input h);
          refused = λ end k h v. sym whole ∙ rw (lines_next input at end k h) (finished-none c s.quantities p ps _ _ v);
          taken = λ end x k h v. record {
            few = s.few;
            quantities = updated p x s.quantities;
            rest = ps;
            lo = suc (rank p);
            walk = walk;
            run = run;
            stands = stands-store s.stands s.few p x holds (value-flag p (take (end - at) (drop at input)) x v);
            whole =
                sym (finished-line c s.quantities p ps (take (end - at) (drop at input)) (lines (drop (min (end + 1) (length input)) input)) x v)
                ∙ ap (λ (l : List (List ℕ)). finished c s.quantities (p ∷ ps) (taking (p ∷ ps) l)) (sym (lines_next input at end k h)) ∙ whole;
            place = omega (arith, s.place, end-within input at s.place.1);
            count = s.count + 1;
            counts = omega (arith, n);
            passes =
                let near : drop (at - from) (drop from input) ≡ drop at input = (
                let e : from + (at - from) ≡ at = omega (arith, s.place) in drop-drop (at - from) from input ∙ ap (λ (i : ℕ). drop i input) e
                ) in
                let one : Passes (drop (at - from) (drop from input)) 1 (min (end + 1) (length input) - at) = rw near (passes-one input at end k h) in
                let far : at - from + (min (end + 1) (length input) - at) ≡ min (end + 1) (length input) - from =
                omega (arith, s.place, end-within input at s.place.1) in
                rw far at (passes-both s.passes one);
          };
        }

-- All records were read.
pub record Read (c : Setup) (input : List ℕ) (from : ℕ) (m : Parts) (at : ℕ) : Type 0 where
  pub gives : wanted c input from ≡ formed_only (state_of c m) (lines (drop at input))
  pub place : (from ≤ at) × (at ≤ length input)
  pub passes : Passes (drop from input) (length (places c)) (at - from)

pub reads-done : {c : Setup} {input : List ℕ} {from : ℕ} {m : Parts} {at : ℕ} → Reads c input from m at None → Read c input from m at
unfolding finished taking over
reads-done {c} {input} {from} {m} {at} s = go s.rest s.walk s.whole s.counts
  where
    go : (rest : List Place) → Walk c None rest None → finished c s.quantities rest (taking rest (lines (drop at input))) ≡ wanted c input from
        → s.count + length rest ≡ length (places c) → Read c input from m at
    go (q ∷ ps) w e n = not-ended (sym w.0)
    go [] w e n = record {
      gives = sym e ∙ rw (stands-state s.stands s.few);
      place = s.place;
      passes = let same : s.count ≡ length (places c) = omega (arith, n) in rw same at s.passes;
    }

-- Before the first line.
pub reads-start : {c : Setup} {input : List ℕ} {from : ℕ} {m : Parts} → Few c → from ≤ length input → m ≡ blank_parts c → Reads c input from m from (to_level c 1)
reads-start {c} {input} {from} few h e =
    let small : Small c = record { processors = few.0; levels = few.1; pages = few.2 } in
    let none_yet : from - from ≡ 0 = omega arith in
    record {
      few = small;
      quantities = λ q. 0;
      rest = places c;
      lo = 0;
      walk = places-walk c;
      run = places-run c small;
      stands = rw e (stands-blank c);
      whole = finished-start c small (lines (drop from input));
      place = omega arith;
      count = 0;
      counts = omega arith;
      passes = rw none_yet (passes_none (drop from input));
    }
