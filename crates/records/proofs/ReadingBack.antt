-- Passing a machine on (request 2): reading what was written gives the same state and leaves the rest; only the text of a
-- well-formed state is taken; and two well-formed states have the same lines exactly when they are equal. Assumes nothing.
use Rattle.std.specs.Prelude.{Err, None, Ok, Option, Result, Some}
use mathlib.Core.Path.{◌≡◌, refl, sym, ap, ◌∙◌, fun_ext}
use mathlib.Core.Bool.{Bool, true, false, cond, ◌&&◌}
use mathlib.Core.List.{List, [], ◌∷◌, ◌++◌, map}
use Prim.Native.Nat.{ℕ, suc, ◌+◌, ◌/◌, ◌%◌, ◌≤◌}
use native.Mathlib.Omega.{arith}
use lib.Dec.{leb}
use lib.ListN.{length}
use borrow.Author.Tests.{le-leb, leb-true, eq-eqb, ne_eqb}
use Rattle.model.specs.declared.machine.FirstLine.{FirstLine}
use Rattle.model.specs.Fresh.{admissible}
use Rattle.model.specs.Hide.{hide, hide_machine}
use Rattle.model.specs.Masks.{valid_mask}
use Rattle.model.specs.State.{State, level, past_vp, past_context, in_range, processors, pages, shape, top, max_level_of, enabled_for, mbec_for, enabled_on}
use Rattle.model.specs.WellFormed.{well_sized, well_formed_parts, well_formed}
use Rattle.model.proofs.Bools.{and_left, and_right, and_both, hold}
use Rattle.model.proofs.Formed.{well-sized, well-parts, well-moded}
use Rattle.model.proofs.Steps.{formed-hide}
use Rattle.script.specs.EventForms.{processor, page}
use Rattle.script.proofs.OneLine.{one-full-first-line}
use Rattle.script.proofs.LineRoundTrip.{first_said}
use Rattle.script.specs.Texts.{Numbers, first_text, first_line_of}
use Rattle.state.specs.Lent.{setup_of}
use Rattle.model.specs.declared.machine.Setup.{Setup}
use Rattle.records.specs.RecordClaims.{Exact}
use Rattle.records.specs.Places.{Place, PartitionEnabled, Mbec, Config, Active, Shared, Register, Tpr, Pending, Enabled, Secure, Reason, From, Rax, Rcx, Word, Mask, Intercepts, Cr0Mask, Cr4Mask, places, has, end_rank, rank}
use Rattle.records.specs.Reading.{is_flag, Taken, taking, among, only, state_of_values, Passed, from_taken, from_first, first_record, passed_on}
use Rattle.records.specs.RecordTexts.{first_of, lines_at, record_lines}
use Rattle.records.specs.Values.{setup_at, number, value_at, context_from, vp_from, state_from, plain, Lengths, Sized}
use Rattle.records.proofs.RecordLines.{Fit, Fits, no-some, some_same, taking-back, taking-only, zipped_map}
use Rattle.records.proofs.Made.{made, flag-back}
use Rattle.records.proofs.Sequence.{Small, Run, In, here, there, member, places-run, run-has, run-above, among_in, among-all, map_same}
use Rattle.records.proofs.Tables.{get_or-table, length-table}
use Rattle.records.proofs.PlainStates.{only-has, only-not, flag, small, plain-is}
use Rattle.model.specs.declared.answer.Refusal.{Refusal}

-- The clauses of an admissible first line.
module _ (f : FirstLine) (h : admissible f ≡ true) where
  sizes : Bool
  sizes = in_range f.processors f.max_level.0 f.pages

  before-smep : (sizes && leb f.dr6_shared 1 && valid_mask f.host_mask) ≡ true
  unfolding admissible sizes
  before-smep = and_left (sizes && leb f.dr6_shared 1 && valid_mask f.host_mask) (leb f.smep 1) h

  smep-low : f.smep ≤ 1
  unfolding admissible sizes
  smep-low = leb-true f.smep 1 (and_right (sizes && leb f.dr6_shared 1 && valid_mask f.host_mask) (leb f.smep 1) h)

  before-host : (sizes && leb f.dr6_shared 1) ≡ true
  before-host = and_left (sizes && leb f.dr6_shared 1) (valid_mask f.host_mask) before-smep

  dr6-low : f.dr6_shared ≤ 1
  dr6-low = leb-true f.dr6_shared 1 (and_right sizes (leb f.dr6_shared 1) before-host)

  in-range : in_range f.processors f.max_level.0 f.pages ≡ true
  unfolding sizes
  in-range = and_left sizes (leb f.dr6_shared 1) before-host

-- The first line of a machine, and the machine of a first line.
first_back : (f : FirstLine) → admissible f ≡ true → first_of (setup_of f) ≡ f
first_back f h = λ i. record {
  processors = f.processors;
  max_level = f.max_level;
  pages = f.pages;
  dr6_shared = flag-back f.dr6_shared (dr6-low f h) i;
  host_mask = f.host_mask;
  smep = flag-back f.smep (smep-low f h) i;
}

setup-back : (c : Setup) → setup_of (first_of c) ≡ c
setup-back c = λ i. record {
  processors = c.processors;
  pages = c.pages;
  host_mask = c.host_mask;
  shape = record { max_level = c.shape.max_level; dr6_shared = flag c.shape.dr6_shared i; smep = flag c.shape.smep i };
}

small-first : (f : FirstLine) → admissible f ≡ true → Small (setup_of f)
unfolding in_range top
small-first f h = record {
  processors = leb-true _ _ (hold _ (in-range f h)).1.0;
  levels = leb-true _ _ (hold _ (in-range f h)).1.1.0;
  pages = leb-true _ _ (hold _ (in-range f h)).1.1.1.1.0;
}

flag_small : (b : Bool) → number b ≤ 1
flag_small true = omega arith
flag_small false = omega arith

no_flag : {A : Type 0} → false ≡ true → A
no_flag h = absurd (let z : ◌≡◌ {A = ℕ} 0 1 = cc in omega arith)

-- A quantity that is yes or no.
yes-no : (s : State) (p : Place) → is_flag p ≡ true → value_at s p ≤ 1
unfolding is_flag value_at
yes-no s (PartitionEnabled t) h = flag_small (enabled_for s t.0)
yes-no s (Mbec t) h = flag_small (mbec_for s t.0)
yes-no s (Config t) h = no_flag h
yes-no s (Active v) h = no_flag h
yes-no s (Shared v r) h = no_flag h
yes-no s (Register v l r) h = no_flag h
yes-no s (Tpr v l) h = no_flag h
yes-no s (Pending v l i) h = no_flag h
yes-no s (Enabled v l) h = flag_small (enabled_on s v.0 l.0)
yes-no s (Secure v l k) h = no_flag h
yes-no s (Reason v l) h = no_flag h
yes-no s (From v l) h = no_flag h
yes-no s (Rax v l) h = no_flag h
yes-no s (Rcx v l) h = no_flag h
yes-no s (Word p) h = no_flag h
yes-no s (Mask p t) h = no_flag h
yes-no s (Intercepts v l) h = no_flag h
yes-no s (Cr0Mask v l) h = no_flag h
yes-no s (Cr4Mask v l) h = no_flag h

-- What is given at the places that a machine has, and nothing else, counts.
only_same : (c : Setup) (f g : Place → ℕ) → ((p : Place) → has c p ≡ true → f p ≡ g p) → only c f ≡ only c g
only_same c f g h = fun_ext (λ p. go p (has c p) refl)
  where
    go : (p : Place) (b : Bool) → has c p ≡ b → only c f p ≡ only c g p
    go p true e = only-has c f p e ∙ h p e ∙ sym (only-has c g p e)
    go p false e = only-not c f p e ∙ sym (only-not c g p e)

module _ (s : State) (w : well_formed s ≡ true) (sized : Sized s) where
  run : Run (setup_at s) 0 (places (setup_at s)) (end_rank (setup_at s))
  run = places-run (setup_at s) (small s w)

  fit : (p : Place) → Fit p (value_at s p)
  fit p = record { word = sized.fits p; flag = yes-no s p }

  -- The quantities, in the order of the sequence, make the state again.
  pub values-make : state_of_values (setup_at s) (map (value_at s) (places (setup_at s))) ≡ plain s
  unfolding state_of_values
  values-make =
      ap (state_from (setup_at s)) (only_same (setup_at s) (among (places (setup_at s)) (map (value_at s) (places (setup_at s)))) (value_at s)
      (λ p h. among_in (setup_at s) (value_at s) (member (setup_at s) p h) 0 (end_rank (setup_at s)) run))
      ∙ sym (plain-is s w sized.lengths)

  plain-formed : well_formed (plain s) ≡ true
  unfolding plain
  plain-formed = formed-hide 4 (λ l. false) (λ p. false) s (well-moded s w) ∙ w

  good-first : admissible (first_of (setup_at s)) ≡ true
  unfolding admissible well_sized well_formed_parts processors pages max_level_of shape top
  good-first =
      rw (
        and_left (in_range s.machine.processors s.machine.shape.max_level.0 s.machine.pages) _ (well-sized s w),
        le-leb _ 1 (flag_small s.machine.shape.dr6_shared),
        le-leb _ 1 (flag_small s.machine.shape.smep),
      )
      (and_both (valid_mask s.machine.host_mask) true (hold _ (well-parts s w)).1.1.0 refl)

  first_fits : Numbers (first_text (first_of (setup_at s))).numbers
  unfolding first_text well_formed_parts top
  first_fits =
      let few = small s w in
      let host : s.machine.host_mask ≤ 15 = leb-true s.machine.host_mask 15 (and_left (leb s.machine.host_mask 15) _ (hold _ (well-parts s w)).1.1.0) in
      let shared = flag_small s.machine.shape.dr6_shared in
      let smep = flag_small s.machine.shape.smep in
      (omega arith, (omega arith, (omega arith, (omega arith, (omega arith, (omega arith, tt))))))

  -- Reading what was written gives the same state, and leaves what follows.
  pub passed-back : (rest : List (List ℕ)) → passed_on (record_lines s ++ rest) ≡ Some (record { state = plain s; rest = rest })
  unfolding passed_on first_record record_lines
  passed-back rest =
      rw (
        first_said (first_of (setup_at s)) first_fits,
        good-first,
        setup-back (setup_at s),
        taking-back (value_at s) (places (setup_at s)) rest fit,
        values-make,
        plain-formed,
      )

  -- The quantities of all that is part of a state are the state's.
  pub plain_value : (p : Place) → has (setup_at s) p ≡ true → value_at (plain s) p ≡ value_at s p
  plain_value p h =
      ap (λ (x : State). value_at x p) (plain-is s w sized.lengths)
      ∙ made (setup_at s) (only (setup_at s) (value_at s)) p h (λ q. rw (only-has (setup_at s) (value_at s) p h) (yes-no s p q))
      ∙ only-has (setup_at s) (value_at s) p h

-- What was taken is what the state of it has.
module _ (c : Setup) where
  fit-in : {p : Place} {ps : List Place} → In p ps → (xs : List ℕ) (lo hi : ℕ) → length xs ≡ length ps → Run c lo ps hi → Fits ps xs → Fit p (among ps xs p)
  unfolding among
  fit-in here [] lo hi e r f = absurd (omega arith)
  fit-in (here {p} {ps}) (x ∷ xs) lo hi e r (f, fs) = rw (eq-eqb (rank p) (rank p) refl) f
  fit-in (there m) [] lo hi e r f = absurd (omega arith)
  fit-in (there {p} {q} {ps} m) (x ∷ xs) lo hi e (a, h, r) (f, fs) =
      rw (ne_eqb (rank p) (rank q) (λ k. omega (arith, run-above c m (suc (rank q)) hi r))) (fit-in m xs (suc (rank q)) hi (omega arith) r fs)

  -- The state of the values has them at its places.
  values-at : Small c → (xs : List ℕ) → length xs ≡ length (places c) → Fits (places c) xs → (p : Place) → has c p ≡ true
      → value_at (state_of_values c xs) p ≡ among (places c) xs p
  unfolding state_of_values
  values-at few xs e f p h =
      let g = among (places c) xs in
      let o = only-has c g p h in
      made c (only c g) p h (λ q. rw o ((fit-in (member c p h) xs 0 (end_rank c) e (places-run c few) f).flag q)) ∙ o

  values-back : Small c → (xs : List ℕ) → length xs ≡ length (places c) → Fits (places c) xs → map (value_at (state_of_values c xs)) (places c) ≡ xs
  values-back few xs e f =
      let r = places-run c few in
      map_same c (value_at (state_of_values c xs)) (among (places c) xs) (places c)
      (λ p m. values-at few xs e f p (run-has c m 0 (end_rank c) r))
      ∙ among-all c (places c) xs 0 (end_rank c) e r

  -- It has nothing else in it.
  values-lengths : (xs : List ℕ) → Lengths (state_of_values c xs)
  unfolding state_of_values state_from
  values-lengths xs =
      let g = only c (among (places c) xs) in
      record {
        configs = length-table 4 (λ l. g (Config (level l)));
        masks = length-table 256 (λ i. g (Mask (page (i / 4)) (level (i % 4))));
        vps = length-table 4 (λ v. vp_from c g (processor v));
        each = λ v h. rw (get_or-table 4 (λ v. vp_from c g (processor v)) v past_vp h) (record {
          shared = length-table 20 (λ i. g (Shared (processor v) (12 + i)));
          contexts = length-table 4 (λ l. context_from g (processor v) (level l));
          each = λ l k. rw (get_or-table 4 (λ l. context_from g (processor v) (level l)) l past_context k) (record {
            registers = length-table 13 (λ r. g (Register (processor v) (level l) r));
            pending = length-table 4 (λ i. g (Pending (processor v) (level l) i));
            secure = length-table 4 (λ j. g (Secure (processor v) (level l) (level j)));
          });
        });
      }

  values-whole : Small c → (xs : List ℕ) → length xs ≡ length (places c) → Fits (places c) xs → well_formed (state_of_values c xs) ≡ true
      → plain (state_of_values c xs) ≡ state_of_values c xs
  unfolding state_of_values state_from
  values-whole few xs e f w =
      plain-is (state_of_values c xs) w (values-lengths xs)
      ∙ ap (state_from c) (only_same c (value_at (state_of_values c xs)) (among (places c) xs) (λ p h. values-at few xs e f p h))

-- Only the records of a well-formed state are taken: they are those of the state that they give.
module _ (line : List ℕ) (lines : List (List ℕ)) (f : FirstLine) (says : first_record line ≡ Ok f) (good : admissible f ≡ true) where
  exact-taken : (t : Taken) → taking (places (setup_of f)) lines ≡ Some t → (r : Passed) (b : Bool) → well_formed (state_of_values (setup_of f) t.values) ≡ b
      → cond b (Some (record { state = state_of_values (setup_of f) t.values; rest = t.rest })) None ≡ Some r → Exact (line ∷ lines) r
  unfolding first_record record_lines state_of_values state_from
  exact-taken t e r false w h = no-some h
  exact-taken t e r true w h =
      let o = taking-only (places (setup_of f)) lines t e in
      let S = state_of_values (setup_of f) t.values in
      let vals : map (value_at S) (places (setup_of f)) ≡ t.values = values-back (setup_of f) (small-first f good) t.values o.count o.fits in
      rw (← some_same h)
      (record {
        these = rw (first_back f good, zipped_map (value_at S) (places (setup_of f)), vals, ← one-full-first-line line f says)
            (ap (λ (l : List (List ℕ)). line ∷ l) o.these);
        formed = w;
        whole = values-whole (setup_of f) (small-first f good) t.values o.count o.fits w;
      })

  exact-first : (r : Passed) (t : Option Taken) → taking (places (setup_of f)) lines ≡ t → from_taken (setup_of f) t ≡ Some r → Exact (line ∷ lines) r
  exact-first r None e h = no-some h
  exact-first r (Some t) e h = exact-taken t e r (well_formed (state_of_values (setup_of f) t.values)) refl h

pub passed-only : (lines : List (List ℕ)) (r : Passed) → passed_on lines ≡ Some r → Exact lines r
unfolding passed_on
passed-only [] r h = no-some h
passed-only (line ∷ lines) r h = go (first_record line) refl h
  where
    by : (f : FirstLine) (b : Bool) → first_record line ≡ Ok f → admissible f ≡ b
        → cond b (from_taken (setup_of f) (taking (places (setup_of f)) lines)) None ≡ Some r → Exact (line ∷ lines) r
    by f true e a k = exact-first line lines f e a r (taking (places (setup_of f)) lines) refl k
    by f false e a k = no-some k

    go : (first : Result FirstLine Refusal) → first_record line ≡ first → from_first first lines ≡ Some r → Exact (line ∷ lines) r
    go (Err m) e k = no-some k
    go (Ok f) e k = by f (admissible f) e refl k

-- Two well-formed states have the same records exactly when they are equal in all that is part of a state.
lines_same : (f g : Place → ℕ) (ps : List Place) → ((p : Place) → In p ps → f p ≡ g p) → lines_at f ps ≡ lines_at g ps
lines_same f g [] h = refl
lines_same f g (p ∷ ps) h = rw (h p here, lines_same f g ps (λ q m. h q (there m)))

pub plain_lines : (s : State) → well_formed s ≡ true → Sized s → record_lines (plain s) ≡ record_lines s
unfolding record_lines plain hide hide_machine
plain_lines s w sized =
    ap (λ (l : List (List ℕ)). first_line_of (first_of (setup_at s)) ∷ l)
    (lines_same (value_at (plain s)) (value_at s) (places (setup_at s))
    (λ p m. plain_value s w sized p (run-has (setup_at s) m 0 (end_rank (setup_at s)) (run s w sized))))

module _ (s t : State) (w : well_formed s ≡ true) (u : well_formed t ≡ true) (sized : Sized s) (sized' : Sized t) where
  pub same_lines : record_lines s ≡ record_lines t → plain s ≡ plain t
  same_lines e =
      let p : ◌≡◌ {A = Option Passed} (Some (record { state = plain s; rest = [] })) (Some (record { state = plain t; rest = [] })) =
      sym (passed-back s w sized []) ∙ ap (λ (l : List (List ℕ)). passed_on (l ++ [])) e ∙ passed-back t u sized' [] in
      ap (λ (r : Passed). r.state) (some_same p)

  pub equal-lines : plain s ≡ plain t → record_lines s ≡ record_lines t
  equal-lines e = sym (plain_lines s w sized) ∙ ap record_lines e ∙ plain_lines t u sized'
