-- Which field of the record in 01, "The bench model", each word is: what a store into a word changes. One law, `row-updated`,
-- holds for every word of a level's row. Assumes nothing.
use mathlib.Core.Path.{◌≡◌, refl, sym, ap, ◌∙◌}
use mathlib.Core.Bool.{Bool, true, false, cond}
use mathlib.Core.List.{List}
use Prim.Native.Nat.{ℕ, ◌+◌, ◌-◌, ◌*◌, ◌<◌}
use native.Mathlib.Omega.{arith}
use lib.Dec.{leb, ltb, eqb}
use lib.ListN.{get_or, take, drop, set, length}
use lib.Seq.{get_or-set_same, get_or-set_other, take-set-le, take-set-lt, drop-set-add}
use borrow.Author.Tests.{leb-true, leb-false, ltb-true, ltb-false, eqb-true, eqb-false, lt-ltb}
use Rattle.model.proofs.Four.{level-low}
use Rattle.model.specs.declared.machine.Shape.{Shape}
use Rattle.model.specs.Arrays.{number_at, stored}
use Rattle.model.specs.Registers.{dr6, shared_of}
use Rattle.model.specs.State.{level_set, is_level, in_set, enabled_at}
use Rattle.model.specs.Updates.{with_active, with_enabled, with_shared}
use Rattle.processor.specs.Record.{record_words, levels, level_words, part, row_of, context_of, context_in, vp_of, updated, word_put}
use Rattle.processor.proofs.RecordWords.{part-read, part-before, part_in, context-in, row-set, row-length, within_same, within-set, within-put}

-- What a store leaves of the first words, of a part, and of a word.
take-set : (n : ℕ) (ws : List ℕ) (k x : ℕ) → take n (set ws k x) ≡ stored n (take n ws) k x
unfolding stored
take-set n ws k x = go (ltb k n) refl
  where
    go : (b : Bool) → ltb k n ≡ b → take n (set ws k x) ≡ cond b (set (take n ws) k x) (take n ws)
    go true e = take-set-lt n ws k x (ltb-true k n e)
    go false e = take-set-le n ws k x (ltb-false k n e)

module _ (row : List ℕ) (k x : ℕ) where
  part-set : (o n : ℕ) → part o n (set row k x) ≡ cond (leb o k) (stored n (part o n row) (k - o) x) (part o n row)
  part-set o n = go (leb o k) refl
    where
      go : (b : Bool) → leb o k ≡ b → part o n (set row k x) ≡ cond b (stored n (part o n row) (k - o) x) (part o n row)
      go true e =
          let q : o + (k - o) ≡ k = omega (arith, leb-true o k e) in
          ap (λ j. part o n (set row j x)) (sym q) ∙ rw (drop-set-add o row (k - o) x) (take-set n (drop o row) (k - o) x)
      go false e = part-before row o n k x (leb-false o k e)

  word_set : (j : ℕ) → j < length row → get_or (set row k x) j 0 ≡ cond (eqb k j) x (get_or row j 0)
  word_set j h = go (eqb k j) refl
    where
      go : (b : Bool) → eqb k j ≡ b → get_or (set row k x) j 0 ≡ cond b x (get_or row j 0)
      go true e = let q : k ≡ j = eqb-true k j e in rw q (get_or-set_same row j x 0 h)
      go false e = get_or-set_other row k j x 0 (λ q. eqb-false k j e (sym q))

  pub row-updated : length row ≡ level_words → context_of (set row k x) ≡ updated k x (context_of row)
  unfolding context_of
  row-updated size =
      rw (
        take-set 13 row k x,
        part-set 14 4,
        part-set 18 4,
        word_set 13 (omega arith),
        word_set 22 (omega arith),
        word_set 23 (omega arith),
        word_set 24 (omega arith),
        word_set 25 (omega arith),
        word_set 26 (omega arith),
        word_set 27 (omega arith),
        word_set 28 (omega arith),
      )

-- A record after word k of a level's row was set to x.
pub word-stored : (z : Shape) (ws : List ℕ) (l k x : ℕ) → length ws ≡ record_words → k < level_words → is_level z l ≡ true → vp_of (set ws (levels + level_words * l + k) x) ≡ word_put z (vp_of ws) l k x
unfolding context_in
word-stored z ws l k x size h e =
    let low = level-low z l e in
    rw (
      within-put z l ws (set ws (levels + level_words * l + k) x) e (within-set l ws ws k x low h (within_same l ws)),
      row-set ws l k x h,
      row-updated (row_of ws l) k x (row-length ws l size low),
      context-in z ws l e,
    )

-- The words that belong to no level.
pub row_kept : (ws : List ℕ) (i x l : ℕ) → i < 22 → row_of (set ws i x) l ≡ row_of ws l
unfolding row_of
row_kept ws i x l h = part-before ws (levels + level_words * l) level_words i x (omega arith)

contexts-kept : (ws : List ℕ) (i x : ℕ) → i < 22 → (vp_of (set ws i x)).contexts ≡ (vp_of ws).contexts
unfolding vp_of context_in
contexts-kept ws i x h =
    rw (row_kept ws i x 0 h, row_kept ws i x 1 h, row_kept ws i x 2 h, row_kept ws i x 3 h)

pub active-set : (ws : List ℕ) (l : ℕ) → length ws ≡ record_words → vp_of (set ws 0 l) ≡ with_active (vp_of ws) l
unfolding vp_of
active-set ws l size =
    rw (get_or-set_same ws 0 l 0 (omega arith), get_or-set_other ws 0 1 l 0 (λ q. omega arith), part-before ws 2 20 0 l (omega arith), contexts-kept ws 0 l (omega arith))

pub enabled-set : (ws : List ℕ) (x : ℕ) → length ws ≡ record_words → vp_of (set ws 1 x) ≡ with_enabled (vp_of ws) (level_set x)
unfolding vp_of
enabled-set ws x size =
    rw (get_or-set_same ws 1 x 0 (omega arith), get_or-set_other ws 1 0 x 0 (λ q. omega arith), part-before ws 2 20 1 x (omega arith), contexts-kept ws 1 x (omega arith))

pub shared-set : (ws : List ℕ) (i x : ℕ) → i < 20 → vp_of (set ws (2 + i) x) ≡ with_shared (vp_of ws) (set (vp_of ws).shared i x)
unfolding vp_of
shared-set ws i x h =
    rw (get_or-set_other ws (2 + i) 0 x 0 (λ q. omega arith), get_or-set_other ws (2 + i) 1 x 0 (λ q. omega arith), part_in ws 2 20 i x h, contexts-kept ws (2 + i) x (omega arith))

pub shared-read : (ws : List ℕ) (r k : ℕ) → k ≡ r - dr6 → k < 20 → get_or ws (2 + k) 0 ≡ shared_of (vp_of ws) r
unfolding shared_of number_at vp_of
shared-read ws r k e h = rw (← e, lt-ltb k 20 h) (sym (part-read ws 2 20 k h))

-- Word 1 is the set of the enabled levels.
pub enabled-word : (z : Shape) (ws : List ℕ) (l : ℕ) → in_set z (level_set (get_or ws 1 0)) l ≡ enabled_at z (vp_of ws) l
unfolding enabled_at vp_of
enabled-word z ws l = refl
