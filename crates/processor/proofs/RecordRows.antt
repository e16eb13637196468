-- A whole row put into a record, and a level that starts with it (01, "Events": envp). Assumes nothing.
use mathlib.Core.Path.{◌≡◌, refl, sym, ap, ◌∙◌}
use mathlib.Core.Bool.{Bool, true, false}
use mathlib.Core.List.{List}
use Prim.Native.Nat.{ℕ, ◌+◌, ◌-◌, ◌*◌, ◌≤◌, ◌<◌}
use native.Mathlib.Omega.{arith}
use lib.Dec.{ltb}
use lib.ListN.{get_or, take, drop, set, length}
use lib.Seq.{drop-cons}
use borrow.Author.Rules.{rules}
use borrow.Author.Tests.{ltb-true, ltb-false}
use borrow.Rule.Slice.PartMut.{put_mid}
use Rattle.std.proofs.lemmas.List.{places}
use Rattle.std.proofs.lemmas.Slice.{between_is, between-put_mid, drop-put_mid, take-put_mid_below}
use Rattle.word.specs.Field.{put}
use Rattle.model.specs.declared.machine.Context.{Context}
use Rattle.model.specs.declared.machine.Shape.{Shape}
use Rattle.model.specs.Entry.{started_context, started}
use Rattle.model.specs.State.{is_level, context}
use Rattle.model.specs.Updates.{put_context, with_level}
use Rattle.processor.specs.Record.{record_words, levels, level_words, Within, part, row_of, context_of, context_in, vp_of, four_words, started_row}
use Rattle.model.proofs.Four.{level-low}
use Rattle.processor.proofs.RecordFields.{enabled-set}
use Rattle.processor.proofs.RecordWords.{context-in, within-put, row_word, row-length}

-- Words put into a part of others: the parts before it and after it stay.
module _ (a k : ℕ) (ws row : List ℕ) (within : a + k ≤ length ws) (whole : length row ≡ k) where
  part-back : (from n : ℕ) (xs : List ℕ) → part from n xs ≡ drop from (take (from + n) xs)
  part-back from n xs = ap (λ m. take m (drop from xs)) (let e : n ≡ from + n - from = omega arith in e) ∙ between_is xs from (from + n)

  before-mid : (from n : ℕ) → from + n ≤ a → part from n (put_mid a k ws row) ≡ part from n ws
  before-mid from n h =
      part-back from n (put_mid a k ws row) ∙ ap (drop from) (take-put_mid_below a k ws row (from + n) h (omega arith)) ∙ sym (part-back from n ws)

  after-mid : (from n : ℕ) → a + k ≤ from → part from n (put_mid a k ws row) ≡ part from n ws
  after-mid from n h = ap (take n) (drop-put_mid a k ws row from h (omega arith) whole)

  word-before : (i : ℕ) → i < a → get_or (put_mid a k ws row) i 0 ≡ get_or ws i 0
  word-before i h = search (rules, places)

-- The row of a level replaced as a whole.
module _ (l k : ℕ) (ws row : List ℕ) (low : l < 4) (size : length ws ≡ record_words) (count : k ≡ level_words) (whole : length row ≡ level_words) where
  abbrev place : ℕ
  place = levels + level_words * l

  fits : place + k ≤ length ws
  fits = omega arith

  pub row-put : row_of (put_mid place k ws row) l ≡ row
  unfolding row_of
  row-put =
      ap (λ n. take n (drop place (put_mid place k ws row))) (let e : level_words ≡ place + level_words - place = omega arith in e)
      ∙ between-put_mid place k ws row (place + level_words) (omega (arith, fits)) (omega arith)

  pub row-within : Within l ws (put_mid place k ws row)
  unfolding row_of
  row-within = record {
    active-same = word-before place k ws row fits (omega arith) 0 (omega arith);
    enabled-same = word-before place k ws row fits (omega arith) 1 (omega arith);
    shared_same = before-mid place k ws row fits (omega arith) 2 20 (omega arith);
    rows_same = λ j b n. other j (ltb j l) refl n;
  }
    where
      other : (j : ℕ) (t : Bool) → ltb j l ≡ t → (j ≡ l → ⊥) → part (levels + level_words * j) level_words (put_mid place k ws row) ≡ part (levels + level_words * j) level_words ws
      other j true e n = before-mid place k ws row fits (omega arith) (levels + level_words * j) level_words (omega (arith, ltb-true j l e))
      other j false e n = after-mid place k ws row fits (omega arith) (levels + level_words * j) level_words (omega (arith, ltb-false j l e, n))

-- The configuration words that a level of the machine holds, one by one.
module _ (z : Shape) (ws : List ℕ) (t : ℕ) (h : is_level z t ≡ true) (size : length ws ≡ record_words) where
  words : length (row_of ws t) ≡ level_words → part 18 4 (row_of ws t) ≡ four_words z ws t 18
  words long =
      rw (
        h,
        ← row_word ws t 18 (omega arith),
        ← row_word ws t 19 (omega arith),
        ← row_word ws t 20 (omega arith),
        ← row_word ws t 21 (omega arith),
        drop-cons (row_of ws t) 18 0 (omega arith),
        drop-cons (row_of ws t) 19 0 (omega arith),
        drop-cons (row_of ws t) 20 0 (omega arith),
        drop-cons (row_of ws t) 21 0 (omega arith),
      )

  held : (context z (vp_of ws) t).secure ≡ four_words z ws t 18
  unfolding context_in context_of
  held = ap (λ (x : Context). x.secure) (context-in z ws t h) ∙ words (row-length ws t size (level-low z t h))

-- A level that starts: its row is new, and it is added to the set of the enabled levels.
module _ (z : Shape) (ws ws₁ : List ℕ) (t ip sp cr : ℕ) (h : is_level z t ≡ true) (size : length ws ≡ record_words) (size₁ : length ws₁ ≡ record_words) where
  abbrev new_row : List ℕ
  new_row = started_row ip sp cr (four_words z ws t 18) (context z (vp_of ws) t).watch

  abbrev new_set : ℕ
  new_set = put t 1 (get_or ws₁ 1 0) 1

  new-context : context_of new_row ≡ started_context (context z (vp_of ws) t) ip sp cr
  unfolding context_of
  new-context = rw (held z ws t h size)

  pub started-by : Within t ws ws₁ → row_of ws₁ t ≡ new_row → vp_of (set ws₁ 1 new_set) ≡ started z (vp_of ws) t ip sp cr
  unfolding started with_level
  started-by w e = enabled-set ws₁ new_set size₁ ∙ rw (within-put z t ws ws₁ h w, h, w.enabled-same, e, new-context) (unfold vp_of put_context in refl)
