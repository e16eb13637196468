-- No two arrays of words stand for one record: each word can be read back from the record. So an equation between the records
-- that words stand for fixes every bit of every word. Assumes nothing.
use mathlib.Core.Path.{◌≡◌, refl, sym, ap, ◌∙◌}
use mathlib.Core.Bool.{Bool, true, false, cond}
use mathlib.Core.List.{List, [], ◌∷◌}
use Prim.Native.Nat.{ℕ, ◌+◌, ◌-◌, ◌*◌, ◌/◌, ◌%◌, ◌≤◌, ◌<◌}
use native.Mathlib.Omega.{arith}
use lib.Dec.{ltb, eqb}
use lib.ListN.{get_or, length}
use lib.Seq.{ext_get_or, get_or-take}
use borrow.Author.Tests.{le-ltb, ltb-true, ltb-false, eqb-true, eqb-false}
use Rattle.model.proofs.Four.{four-at}
use Rattle.model.specs.declared.machine.Context.{Context}
use Rattle.model.specs.declared.machine.VirtualProcessor.{VirtualProcessor}
use Rattle.model.specs.State.{past_context}
use Rattle.processor.specs.Record.{record_words, levels, level_words, part, row_of, context_of, context_in, vp_of}
use Rattle.processor.proofs.RecordWords.{part-read, row_word}

-- The word at offset k of a level's row, from its context.
unfoldable word_from : Context → ℕ → ℕ
word_from c k =
    cond (ltb k 13) (get_or c.registers k 0) (cond (eqb k 13) c.tpr (cond (ltb k 18) (get_or c.pending (k - 14) 0) (cond (ltb k 22) (get_or c.secure (k - 18) 0)
    (cond (ltb k 26) (cond (eqb k 22) c.control.reason (cond (eqb k 23) c.control.from.0 (cond (eqb k 24) c.control.rax c.control.rcx)))
    (cond (eqb k 26) c.watch.intercepts (cond (eqb k 27) c.watch.cr0_mask c.watch.cr4_mask))))))

module _ (row : List ℕ) (k : ℕ) (h : k < level_words) where
  abbrev Found : ℕ → Type 0
  Found x = get_or row k 0 ≡ x

  -- A choice by a test, with what the test tells.
  by : (b : Bool) (x y : ℕ) → (b ≡ true → Found x) → (b ≡ false → Found y) → Found (cond b x y)
  by true x y f g = f refl
  by false x y f g = g refl

  at : (n : ℕ) → eqb k n ≡ true → Found (get_or row n 0)
  at n e = ap (λ j. get_or row j 0) (eqb-true k n e)

  in-part : (o n : ℕ) → ltb k o ≡ false → ltb k (o + n) ≡ true → Found (get_or (part o n row) (k - o) 0)
  in-part o n a b =
      let low = ltb-false k o a in
      let high = ltb-true k (o + n) b in
      let q : o + (k - o) ≡ k = omega arith in
      ap (λ j. get_or row j 0) (sym q) ∙ sym (part-read row o n (k - o) (omega arith))

  -- The four words of the control record, and the three of what the level asks to be told of registers.
  controls : 22 ≤ k → k < 26 → Found (cond (eqb k 22) (get_or row 22 0) (cond (eqb k 23) (get_or row 23 0) (cond (eqb k 24) (get_or row 24 0) (get_or row 25 0))))
  controls low high =
      by (eqb k 22) _ _ (at 22) (λ f.
      by (eqb k 23) _ _ (at 23) (λ g.
      by (eqb k 24) _ _ (at 24) (λ i.
      let f' : (k ≡ 22 → ⊥) = eqb-false k 22 f in
      let g' : (k ≡ 23 → ⊥) = eqb-false k 23 g in
      let i' : (k ≡ 24 → ⊥) = eqb-false k 24 i in
      let q : k ≡ 25 = omega arith in
      ap (λ j. get_or row j 0) q)))

  watches : 26 ≤ k → Found (cond (eqb k 26) (get_or row 26 0) (cond (eqb k 27) (get_or row 27 0) (get_or row 28 0)))
  watches low =
      by (eqb k 26) _ _ (at 26) (λ f.
      by (eqb k 27) _ _ (at 27) (λ g.
      let f' : (k ≡ 26 → ⊥) = eqb-false k 26 f in
      let g' : (k ≡ 27 → ⊥) = eqb-false k 27 g in
      let q : k ≡ 28 = omega arith in
      ap (λ j. get_or row j 0) q))

  word-from : Found (word_from (context_of row) k)
  unfolding context_of word_from
  word-from =
      by (ltb k 13) _ _ (λ e. sym (get_or-take 13 row k 0 (ltb-true k 13 e))) (λ a.
      by (eqb k 13) _ _ (at 13) (λ b.
      let past : (k ≡ 13 → ⊥) = eqb-false k 13 b in
      let up = ltb-false k 13 a in
      by (ltb k 18) _ _ (in-part 14 4 (le-ltb k 14 (omega arith))) (λ c.
      by (ltb k 22) _ _ (in-part 18 4 c) (λ d.
      by (ltb k 26) _ _ (λ r. controls (ltb-false k 22 d) (ltb-true k 26 r)) (λ r. watches (ltb-false k 26 r))))))

-- Word i of a record, from what it stands for.
unfoldable read_back : VirtualProcessor → ℕ → ℕ
read_back p i =
    cond (eqb i 0) p.active.0 (cond (eqb i 1) p.enabled.0 (cond (ltb i 22) (get_or p.shared (i - 2) 0) (word_from (get_or p.contexts ((i - 22) / level_words) past_context) ((i - 22) % level_words))))

word_back : (ws : List ℕ) (i : ℕ) → i < record_words → get_or ws i 0 ≡ read_back (vp_of ws) i
unfolding vp_of read_back
word_back ws i h = go (eqb i 0) refl (eqb i 1) refl (ltb i 22) refl
  where
    l : ℕ
    l = (i - 22) / level_words

    k : ℕ
    k = (i - 22) % level_words

    go : (a : Bool) → eqb i 0 ≡ a → (b : Bool) → eqb i 1 ≡ b → (c : Bool) → ltb i 22 ≡ c
        → get_or ws i 0 ≡ cond a (get_or ws 0 0) (cond b (get_or ws 1 0) (cond c (get_or (part 2 20 ws) (i - 2) 0) (word_from (get_or (context_in ws 0 ∷ context_in ws 1 ∷ context_in ws 2 ∷ context_in ws 3 ∷ []) l past_context) k)))
    go true d b e c f = ap (λ j. get_or ws j 0) (eqb-true i 0 d)
    go false d true e c f = ap (λ j. get_or ws j 0) (eqb-true i 1 e)
    go false d false e true f =
        let a' : (i ≡ 0 → ⊥) = eqb-false i 0 d in
        let b' : (i ≡ 1 → ⊥) = eqb-false i 1 e in
        let low = ltb-true i 22 f in
        let q : 2 + (i - 2) ≡ i = omega arith in
        ap (λ j. get_or ws j 0) (sym q) ∙ sym (part-read ws 2 20 (i - 2) (omega arith))
    go false d false e false f =
        let high = ltb-false i 22 f in
        let inner : k < level_words = omega arith in
        let few : l < 4 = omega arith in
        let q : levels + level_words * l + k ≡ i = omega arith in
        ap (λ j. get_or ws j 0) (sym q) ∙ sym (row_word ws l k inner) ∙ word-from (row_of ws l) k inner ∙ ap (λ c. word_from c k) (unfold context_in in sym (four-at (λ j. context_of (row_of ws j)) past_context l few))

pub record-one : (ws ws' : List ℕ) → length ws ≡ record_words → length ws' ≡ record_words → vp_of ws ≡ vp_of ws' → ws ≡ ws'
record-one ws ws' n n' e =
    ext_get_or 0 ws ws' (n ∙ sym n') (λ i h. word_back ws i (omega arith) ∙ ap (λ p. read_back p i) e ∙ sym (word_back ws' i (omega arith)))
