-- The text of a state record by record, and what is left to write along the walk. Assumes nothing.
use Rattle.std.specs.Prelude.{None, Option, Some}
use mathlib.Core.Path.{◌≡◌, refl, sym, ap, ◌∙◌}
use mathlib.Core.Bool.{true}
use mathlib.Core.List.{List, [], ◌∷◌, ◌++◌, map, append-nil, append_assoc}
use Prim.Native.Nat.{ℕ, suc, ◌+◌, ◌≤◌, ◌<◌}
use native.Mathlib.Omega.{arith}
use lib.ListN.{length, length-append}
use Rattle.decimal.specs.Write.{decimal}
use Rattle.model.specs.declared.machine.Setup.{Setup}
use Rattle.model.specs.State.{State}
use Rattle.script.proofs.Cells.{Written, written-length, written_next}
use Rattle.script.specs.Bytes.{bytes}
use Rattle.script.specs.LineForms.{tab}
use Rattle.script.specs.ListingLine.{cell, line_feed}
use Rattle.script.specs.Texts.{parted, first_line_of, first_text, written}
use Rattle.records.specs.declared.place.Place.{Place}
use Rattle.records.specs.Places.{places, has, end_rank, rank}
use Rattle.records.specs.RecordTexts.{closed, front, record_line, first_of, lines_at, record_lines, ended, records_text}
use Rattle.records.specs.Values.{number, setup_at, value_at}
use Rattle.records.specs.Walk.{first_due, next_of}
use Rattle.records.proofs.Sequence.{Small, Run, places-run}
use Rattle.records.proofs.Walks.{Walk, due_rank, not-ended, places-walk, rank_rises, run-below}
use Rattle.transfer.specs.Sent.{record_text, first_record_text, text_at, places_text}

-- A record with its line feed.
text-is : (p : Place) (x : ℕ) → record_text p x ≡ record_line p x ++ line_feed ∷ []
unfolding record_text record_line cell
text-is p x = sym (append_assoc (front p) (decimal x) (line_feed ∷ []))

texts-are : (value : Place → ℕ) (ps : List Place) → text_at value ps ≡ ended (lines_at value ps)
unfolding text_at ended
texts-are value [] = refl
texts-are value (p ∷ ps) = rw (text-is p (value p), texts-are value ps) (append_assoc (record_line p (value p)) (line_feed ∷ []) (ended (lines_at value ps)))

-- The first record and the others are the whole text.
pub whole_is : (s : State) → first_record_text (setup_at s) ++ places_text s ≡ records_text s
unfolding first_record_text places_text records_text record_lines ended
whole_is s =
    ap (λ (l : List ℕ). (first_line_of (first_of (setup_at s)) ++ line_feed ∷ []) ++ l) (texts-are (value_at s) (places (setup_at s)))
    ∙ append_assoc (first_line_of (first_of (setup_at s))) (line_feed ∷ []) (ended (lines_at (value_at s) (places (setup_at s))))

-- Numbers that are parted by tabs: all but the last have their tab after them.
parted-is : (numbers : List ℕ) (x : ℕ) → tab ∷ (closed numbers ++ decimal x) ≡ parted (map decimal (numbers ++ x ∷ []))
unfolding closed cell parted
parted-is [] x = sym (append-nil (tab ∷ decimal x))
parted-is (n ∷ numbers) x =
    simp append_assoc (ap (λ (l : List ℕ). tab ∷ (decimal n ++ l)) (parted-is numbers x))

-- The first record, by the numbers that have a tab after them, and the last.
abbrev pub first_numbers : Setup → List ℕ
first_numbers c = c.processors ∷ c.shape.max_level.0 ∷ c.pages ∷ number c.shape.dr6_shared ∷ c.host_mask ∷ []

pub first-is : (c : Setup) → (bytes "vsm" ++ tab ∷ closed (first_numbers c)) ++ cell (number c.shape.smep) line_feed ≡ first_record_text c
unfolding first_record_text first_line_of first_text written cell
first-is c =
    let x = number c.shape.smep in
    sym (append_assoc (bytes "vsm" ++ tab ∷ closed (first_numbers c)) (decimal x) (line_feed ∷ []))
    ∙ ap (λ (l : List ℕ). (bytes "vsm" ++ l) ++ line_feed ∷ []) (parted-is (first_numbers c) x)

-- What is written, the places that are left, and where the walk stands: at the first of them.
pub record Left (c : Setup) (g : Place → ℕ) (out₀ : List ℕ) (start : ℕ) (out : List ℕ) (at : ℕ) (due : Option Place) : Type 0 where
  pub done : List ℕ
  pub rest : List Place
  pub lo : ℕ
  pub walk : Walk c due rest None
  pub run : Run c lo rest (end_rank c)
  pub whole : done ++ text_at g rest ≡ text_at g (places c)
  pub wrote : Written out₀ start done at out

module _ (c : Setup) (g : Place → ℕ) (out₀ : List ℕ) (start : ℕ) where
  pub left-start : Small c → Left c g out₀ start out₀ start (first_due c)
  left-start few = record {
    done = [];
    rest = places c;
    lo = 0;
    walk = places-walk c;
    run = places-run c few;
    whole = refl;
    wrote = record { value = omega arith; out_after = refl };
  }

  -- The record that is due.
  pub record Due (out : List ℕ) (at : ℕ) (p : Place) : Type 0 where
    pub holds : has c p ≡ true
    pub room : start + length (text_at g (places c)) ≤ length out₀ → at + length (record_text p (g p)) ≤ length out
    pub below : rank p < end_rank c
    pub rises : rank p < due_rank c (next_of c p)
    pub goes : (after : ℕ) (last : List ℕ) → Written out at (record_text p (g p)) after last → Left c g out₀ start last after (next_of c p)

  pub left_at : (out : List ℕ) (at : ℕ) (p : Place) → Left c g out₀ start out at (Some p) → Due out at p
  left_at out at p l = go l.rest l.walk l.run l.whole
    where
      go : (rest : List Place) → Walk c (Some p) rest None → Run c l.lo rest (end_rank c) → l.done ++ text_at g rest ≡ text_at g (places c) → Due out at p
      go [] w r e = not-ended w
      go (q ∷ ps) w r e =
          let same : q ≡ p = (let k = w.0 in cc) in
          let run : Run c (suc (rank p)) ps (end_rank c) = rw same at r.2 in
          let walk : Walk c (next_of c p) ps None = rw same at w.1 in
          let opened : l.done ++ (record_text q (g q) ++ text_at g ps) ≡ text_at g (places c) = unfold text_at in e in
          let whole : l.done ++ (record_text p (g p) ++ text_at g ps) ≡ text_at g (places c) = rw same at opened in
          record {
            holds = rw same at r.1;
            room = λ h. omega (
              arith,
              l.wrote.value,
              written-length out₀ start l.done l.wrote,
              ap length whole,
              length-append l.done (record_text p (g p) ++ text_at g ps),
              length-append (record_text p (g p)) (text_at g ps),
            );
            below = omega (arith, run-below c ps (suc (rank p)) (end_rank c) run);
            rises = rank_rises c p (next_of c p) ps walk run;
            goes = λ after last w. record {
              done = l.done ++ record_text p (g p);
              rest = ps;
              lo = suc (rank p);
              walk = walk;
              run = run;
              whole = append_assoc l.done (record_text p (g p)) (text_at g ps) ∙ whole;
              wrote = written_next out₀ start l.done (record_text p (g p)) l.wrote w;
            };
          }

  -- Nothing is left.
  pub left-done : (out : List ℕ) (at : ℕ) → Left c g out₀ start out at None → Written out₀ start (text_at g (places c)) at out
  left-done out at l = go l.rest l.walk l.whole
    where
      go : (rest : List Place) → Walk c None rest None → l.done ++ text_at g rest ≡ text_at g (places c) → Written out₀ start (text_at g (places c)) at out
      go [] w e =
          let all : l.done ≡ text_at g (places c) = sym (append-nil l.done) ∙ (unfold text_at in e) in
          rw (← all) l.wrote
      go (q ∷ ps) w e = not-ended (sym w.0)
