-- The words of a record: what a word that is read stands for in the record of 01, "The bench model", and what the record is after
-- a word was changed. Assumes nothing.
use mathlib.Core.Path.{◌≡◌, refl, sym, ap, ◌∙◌}
use mathlib.Core.Bool.{Bool, true, false, cond}
use mathlib.Core.List.{List}
use Prim.Native.Nat.{ℕ, ◌+◌, ◌-◌, ◌*◌, ◌≤◌, ◌<◌}
use native.Mathlib.Omega.{arith}
use lib.Dec.{ltb}
use lib.ListN.{get_or, drop, set, length, length-take, length-drop}
use lib.Seq.{get_or-take, get_or-drop, get_or-set_same, get_or-set_other, take-set-le, take-set-lt, drop-set-lt, drop-set-add, set-get_or, set-set}
use borrow.Author.Tests.{ltb-true, ltb-false}
use Rattle.model.proofs.Four.{four-at, four-set, level-low}
use Rattle.model.specs.declared.machine.Context.{Context}
use Rattle.model.specs.declared.machine.Shape.{Shape}
use Rattle.model.specs.declared.machine.VirtualProcessor.{VirtualProcessor}
use Rattle.model.specs.State.{level, level_set, is_level, context, no_context, past_context}
use Rattle.model.specs.Updates.{with_contexts, put_context}
use Rattle.processor.specs.Record.{record_words, levels, level_words, Within, part, row_of, context_of, context_in, vp_of, word_in, altered}

-- Parts of words: what is read of one, and what a store leaves of it.
module _ (ws : List ℕ) (from n : ℕ) where
  pub part-read : (i : ℕ) → i < n → get_or (part from n ws) i 0 ≡ get_or ws (from + i) 0
  part-read i h = get_or-take n (drop from ws) i 0 h ∙ get_or-drop from ws i 0

  pub part-before : (i x : ℕ) → i < from → part from n (set ws i x) ≡ part from n ws
  part-before i x h = rw (drop-set-lt from ws i x h)

  pub part_in : (i x : ℕ) → i < n → part from n (set ws (from + i) x) ≡ set (part from n ws) i x
  part_in i x h = rw (drop-set-add from ws i x, take-set-lt n (drop from ws) i x h)

  pub part-past : (i x : ℕ) → from + n ≤ i → part from n (set ws i x) ≡ part from n ws
  part-past i x h =
      let e : from + (i - from) ≡ i = omega arith in
      ap (λ j. part from n (set ws j x)) (sym e)
      ∙ rw (drop-set-add from ws (i - from) x, take-set-le n (drop from ws) (i - from) x (omega arith))

-- A level that a test has found to be one of the machine.
pub level-found : (z : Shape) (l : ℕ) {b : Bool} → b ≡ is_level z l → b ≡ true → l < 4
level-found z l e h = level-low z l (sym e ∙ h)

-- The context of a level of the machine.
pub context-in : (z : Shape) (ws : List ℕ) (l : ℕ) → is_level z l ≡ true → context z (vp_of ws) l ≡ context_in ws l
unfolding context vp_of
context-in z ws l h = rw h (four-at (context_in ws) past_context l (level-low z l h))

pub context-none : (z : Shape) (p : VirtualProcessor) (l : ℕ) → is_level z l ≡ false → context z p l ≡ no_context
unfolding context
context-none z p l h = rw h

-- Word k of a level's row.
pub row_word : (ws : List ℕ) (l k : ℕ) → k < level_words → get_or (row_of ws l) k 0 ≡ get_or ws (levels + level_words * l + k) 0
unfolding row_of
row_word ws l k h = part-read ws (levels + level_words * l) level_words k h

pub row-length : (ws : List ℕ) (l : ℕ) → length ws ≡ record_words → l < 4 → length (row_of ws l) ≡ level_words
unfolding row_of
row-length ws l e h = length-take level_words (drop (levels + level_words * l) ws) ∙ omega (arith, length-drop (levels + level_words * l) ws)

pub within_same : (l : ℕ) (ws : List ℕ) → Within l ws ws
within_same l ws = record { active-same = refl; enabled-same = refl; shared_same = refl; rows_same = λ j h n. refl }

pub within-set : (l : ℕ) (ws ws' : List ℕ) (k x : ℕ) → l < 4 → k < level_words → Within l ws ws' → Within l ws (set ws' (levels + level_words * l + k) x)
unfolding row_of
within-set l ws ws' k x h i w = record {
  active-same = get_or-set_other ws' (levels + level_words * l + k) 0 x 0 (λ e. omega arith) ∙ w.active-same;
  enabled-same = get_or-set_other ws' (levels + level_words * l + k) 1 x 0 (λ e. omega arith) ∙ w.enabled-same;
  shared_same = part-past ws' 2 20 (levels + level_words * l + k) x (omega arith) ∙ w.shared_same;
  rows_same = λ j b n. other j (ltb j l) refl n ∙ w.rows_same j b n;
}
  where
    other : (j : ℕ) (t : Bool) → ltb j l ≡ t → (j ≡ l → ⊥) → part (levels + level_words * j) level_words (set ws' (levels + level_words * l + k) x) ≡ part (levels + level_words * j) level_words ws'
    other j true e n = part-past ws' (levels + level_words * j) level_words (levels + level_words * l + k) x (omega (arith, ltb-true j l e))
    other j false e n = part-before ws' (levels + level_words * j) level_words (levels + level_words * l + k) x (omega (arith, ltb-false j l e, n))

-- The row itself.
pub row-set : (ws : List ℕ) (l k x : ℕ) → k < level_words → row_of (set ws (levels + level_words * l + k) x) l ≡ set (row_of ws l) k x
unfolding row_of
row-set ws l k x h = part_in ws (levels + level_words * l) level_words k x h

-- A record whose words differ in one row has another context there.
pub within-put : (z : Shape) (l : ℕ) (ws ws' : List ℕ) → is_level z l ≡ true → Within l ws ws'
    → vp_of ws' ≡ put_context z (vp_of ws) l (context_of (row_of ws' l))
unfolding vp_of put_context context_in
within-put z l ws ws' h w =
    rw (h, w.active-same, w.shared_same, w.enabled-same)
    (ap (λ cs. record { active = level (get_or ws 0 0); enabled = level_set (get_or ws 1 0); shared = part 2 20 ws; contexts = cs })
    (four-set (λ j. context_of (row_of ws j)) (λ j. context_of (row_of ws' j)) l (level-low z l h)
    (λ j b n. ap context_of (w.rows_same j b n))))

-- Nothing is stored beyond M, and a context that is put back where it was changes nothing.
pub put-none : (z : Shape) (p : VirtualProcessor) (l : ℕ) (c : Context) → is_level z l ≡ false → put_context z p l c ≡ p
unfolding put_context
put-none z p l c h = rw h

pub put_same : (z : Shape) (p : VirtualProcessor) (l : ℕ) → put_context z p l (context z p l) ≡ p
unfolding put_context context
put_same z p l = go (is_level z l)
  where
    go : (b : Bool) → with_contexts p (cond b (set p.contexts l (cond b (get_or p.contexts l past_context) no_context)) p.contexts) ≡ p
    go true = ap (with_contexts p) (set-get_or p.contexts l past_context)
    go false = refl

-- A field of a context that is word k of its level.
pub field-read : (f : Context → ℕ) (k : ℕ) → k < level_words → f no_context ≡ 0 → ((row : List ℕ) → f (context_of row) ≡ get_or row k 0)
    → (z : Shape) (ws : List ℕ) (l : ℕ) → word_in z ws l k ≡ f (context z (vp_of ws) l)
unfolding context_in
field-read f k h n c z ws l = go (is_level z l) refl
  where
    go : (b : Bool) → is_level z l ≡ b → cond b (get_or ws (levels + level_words * l + k) 0) 0 ≡ f (context z (vp_of ws) l)
    go true e = rw (context-in z ws l e, c (row_of ws l), row_word ws l k h)
    go false e = rw (context-none z (vp_of ws) l e) (sym n)

-- A context changed twice.
pub altered-again : (z : Shape) (p : VirtualProcessor) (l : ℕ) (f g : Context → Context) → length p.contexts ≡ 4
    → altered z (altered z p l f) l g ≡ altered z p l (λ c. g (f c))
unfolding put_context context
altered-again z p l f g size = go (is_level z l) refl
  where
    go : (b : Bool) → is_level z l ≡ b → altered z (altered z p l f) l g ≡ altered z p l (λ c. g (f c))
    go true e =
        let low = level-low z l e in
        rw (e, get_or-set_same p.contexts l (f (get_or p.contexts l past_context)) past_context (omega arith), set-set p.contexts l)
    go false e = rw e

pub contexts-length : (ws : List ℕ) → length (vp_of ws).contexts ≡ 4
unfolding vp_of
contexts-length ws = refl
