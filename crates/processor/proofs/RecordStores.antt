-- The definitions of crate `model` that read or change one word of a level, by the words of the record: private registers, TPR,
-- pending vectors, secure words, control records and watched registers (01, "The bench model"). Assumes nothing.
use mathlib.Core.Path.{◌≡◌, refl, sym, ◌∙◌}
use mathlib.Core.Bool.{true, ◌&&◌}
use mathlib.Core.List.{List}
use Prim.Native.Nat.{ℕ, zero, suc, ◌+◌, ◌≤◌, ◌<◌}
use native.Mathlib.Numerals.{add-one}
use native.Mathlib.Omega.{arith}
use lib.Dec.{eqb}
use lib.ListN.{get_or, replicate, length, get_or-replicate}
use borrow.Author.Tests.{lt-ltb, lt-leb, ne_eqb, eqb-true}
use Rattle.word.specs.Field.{put}
use Rattle.model.specs.declared.machine.Context.{Context}
use Rattle.model.specs.declared.machine.Control.{Control}
use Rattle.model.specs.declared.machine.Shape.{Shape}
use Rattle.model.specs.declared.machine.VirtualProcessor.{VirtualProcessor}
use Rattle.model.specs.declared.machine.Watch.{Watch}
use Rattle.model.proofs.Bools.{and_left, and_right, cond_same}
use Rattle.model.proofs.Four.{below-four}
use Rattle.model.specs.Arrays.{number_at, stored}
use Rattle.model.specs.Registers.{private_of}
use Rattle.model.specs.State.{context, is_level, no_context, lock_bit}
use Rattle.model.specs.Updates.{with_pending, with_secure, set_private, set_secure, set_watch, cleared, unlocked}
use Rattle.processor.specs.Record.{intercepts, cr0_mask_index, cr4_mask_index, intercepts_of, none_watches, level_words, part, context_of, vp_of, word_in, updated, altered, word_put, lock_cleared, control_set}
use Rattle.processor.proofs.RecordWords.{part-read, field-read, altered-again}

-- Words that are read.
module _ (z : Shape) (ws : List ℕ) (l : ℕ) where
  -- An array in the row.
  array-read : (f : Context → List ℕ) (o n : ℕ) → o + n ≤ level_words → f no_context ≡ replicate n 0 → ((row : List ℕ) → f (context_of row) ≡ part o n row)
      → (i k : ℕ) → i < n → k ≡ o + i → word_in z ws l k ≡ number_at n (f (context z (vp_of ws) l)) i
  unfolding number_at
  array-read f o n fits none parts i k h at =
      rw (at, lt-ltb i n h)
      (field-read (λ c. get_or (f c) i 0) (o + i) (omega arith) (rw none (get_or-replicate n i 0 0 h)) (λ row. rw (parts row) (part-read row o n i h)) z ws l)

  pub private-read : (r : ℕ) → r < 13 → word_in z ws l r ≡ private_of z (vp_of ws) l r
  unfolding private_of context_of
  private-read r h = array-read (λ c. c.registers) 0 13 (omega arith) refl (λ row. refl) r r h (omega arith)

  pub pending-read : (i : ℕ) → i < 4 → word_in z ws l (14 + i) ≡ number_at 4 (context z (vp_of ws) l).pending i
  unfolding context_of
  pending-read i h = array-read (λ c. c.pending) 14 4 (omega arith) refl (λ row. refl) i (14 + i) h refl

  pub held-read : (i : ℕ) → i < 4 → word_in z ws l (18 + i) ≡ number_at 4 (context z (vp_of ws) l).secure i
  unfolding context_of
  held-read i h = array-read (λ c. c.secure) 18 4 (omega arith) refl (λ row. refl) i (18 + i) h refl

  pub tpr-read : word_in z ws l 13 ≡ (context z (vp_of ws) l).tpr
  unfolding context_of
  tpr-read = field-read (λ c. c.tpr) 13 (omega arith) refl (λ row. refl) z ws l

  pub control-read : (k : Control) → k.reason ≡ word_in z ws l 22 → k.from.0 ≡ word_in z ws l 23 → k.rax ≡ word_in z ws l 24 → k.rcx ≡ word_in z ws l 25
      → k ≡ (context z (vp_of ws) l).control
  unfolding context_of
  control-read k a b c d =
      let reason = a ∙ field-read (λ c. c.control.reason) 22 (omega arith) refl (λ row. refl) z ws l in
      let from = b ∙ field-read (λ c. c.control.from.0) 23 (omega arith) refl (λ row. refl) z ws l in
      let rax = c ∙ field-read (λ c. c.control.rax) 24 (omega arith) refl (λ row. refl) z ws l in
      let rcx = d ∙ field-read (λ c. c.control.rcx) 25 (omega arith) refl (λ row. refl) z ws l in
      λ i. record { reason = reason i; from = record { 0 = from i }; rax = rax i; rcx = rcx i }

  pub watch-read : (w : Watch) → w.intercepts ≡ word_in z ws l intercepts → w.cr0_mask ≡ word_in z ws l cr0_mask_index → w.cr4_mask ≡ word_in z ws l cr4_mask_index → w ≡ (context z (vp_of ws) l).watch
  unfolding context_of
  watch-read w a b c =
      let word = a ∙ field-read (λ c. c.watch.intercepts) intercepts (omega arith) refl (λ row. refl) z ws l in
      let cr0 = b ∙ field-read (λ c. c.watch.cr0_mask) cr0_mask_index (omega arith) refl (λ row. refl) z ws l in
      let cr4 = c ∙ field-read (λ c. c.watch.cr4_mask) cr4_mask_index (omega arith) refl (λ row. refl) z ws l in
      λ i. record { intercepts = word i; cr0_mask = cr0 i; cr4_mask = cr4 i }

-- The intercept control words of levels 1 to 3, where all are 0.
pub words-zero : (ws : List ℕ) → none_watches ws ≡ true → (z : Shape) (t : ℕ) → 0 < t → t < 4 → (context z (vp_of ws) t).watch.intercepts ≡ 0
unfolding context_of
words-zero ws e z t h k =
    let first = eqb (intercepts_of ws 1) 0 && eqb (intercepts_of ws 2) 0 in
    let one = eqb-true _ _ (and_left (eqb (intercepts_of ws 1) 0) _ (and_left first _ e)) in
    let two = eqb-true _ _ (and_right (eqb (intercepts_of ws 1) 0) _ (and_left first _ e)) in
    let three = eqb-true _ _ (and_right first _ e) in
    let word : intercepts_of ws t ≡ 0 = below-four (λ n. 0 < n → intercepts_of ws n ≡ 0) (λ l. absurd (omega arith)) (λ l. one) (λ l. two) (λ l. three) t k h in
    sym (field-read (λ c. c.watch.intercepts) intercepts (omega arith) refl (λ row. refl) z ws t) ∙ rw word (cond_same (is_level z t) 0)

-- A word that is stored: which field of the context it is.
module _ (z : Shape) (p : VirtualProcessor) (l : ℕ) where
  pub private-put : (r x : ℕ) → r < 13 → word_put z p l r x ≡ set_private z p l r x
  unfolding set_private stored
  private-put r x h =
      rw (
        lt-leb 14 r (omega arith),
        lt-leb 18 r (omega arith),
        ne_eqb r 13 (λ e. omega arith),
        ne_eqb r 22 (λ e. omega arith),
        ne_eqb r 23 (λ e. omega arith),
        ne_eqb r 24 (λ e. omega arith),
        ne_eqb r 25 (λ e. omega arith),
        ne_eqb r intercepts (λ e. omega arith),
        ne_eqb r cr0_mask_index (λ e. omega arith),
        ne_eqb r cr4_mask_index (λ e. omega arith),
      )

  pub pending-put : (i x : ℕ) → i < 4 → word_put z p l (14 + i) x ≡ altered z p l (λ c. with_pending c (stored 4 c.pending i x))
  unfolding stored
  pending-put i x = below-four (λ i. word_put z p l (14 + i) x ≡ altered z p l (λ c. with_pending c (stored 4 c.pending i x))) refl refl refl refl i

  pub secure-put : (i x : ℕ) → i < 4 → word_put z p l (18 + i) x ≡ set_secure z p l i x
  unfolding set_secure stored
  secure-put i x = below-four (λ i. word_put z p l (18 + i) x ≡ set_secure z p l i x) refl refl refl refl i

-- Four changes of one context, one after the other.
four-altered : (z : Shape) (p q r s t : VirtualProcessor) (l : ℕ) (a b c d : Context → Context) → length p.contexts ≡ 4
    → q ≡ altered z p l a → r ≡ altered z q l b → s ≡ altered z r l c → t ≡ altered z s l d → t ≡ altered z p l (λ x. d (c (b (a x))))
four-altered z p q r s t l a b c d size e f g h =
    rw (h, g, f, e, altered-again z p l a b size, altered-again z p l (λ x. b (a x)) c size, altered-again z p l (λ x. c (b (a x))) d size)

-- The four words of a control record, stored one after the other.
pub control-stored : (z : Shape) (p q r s t : VirtualProcessor) (l : ℕ) (k : Control) → length p.contexts ≡ 4
    → q ≡ word_put z p l 22 k.reason → r ≡ word_put z q l 23 k.from.0 → s ≡ word_put z r l 24 k.rax → t ≡ word_put z s l 25 k.rcx
    → t ≡ control_set z p l k
unfolding stored
control-stored z p q r s t l k size e f g h =
    four-altered z p q r s t l (updated 22 k.reason) (updated 23 k.from.0) (updated 24 k.rax) (updated 25 k.rcx) size e f g h

-- The three words of what a level asks to be told of registers, stored one after the other.
pub watch-stored : (z : Shape) (p q r s : VirtualProcessor) (l : ℕ) (w : Watch) → length p.contexts ≡ 4
    → q ≡ word_put z p l intercepts w.intercepts → r ≡ word_put z q l cr0_mask_index w.cr0_mask → s ≡ word_put z r l cr4_mask_index w.cr4_mask
    → s ≡ set_watch z p l w
unfolding stored set_watch
watch-stored z p q r s l w size e f g =
    rw (g, f, e, altered-again z p l (updated intercepts w.intercepts) (updated cr0_mask_index w.cr0_mask) size, altered-again z p l (λ x. updated cr0_mask_index w.cr0_mask (updated intercepts w.intercepts x)) (updated cr4_mask_index w.cr4_mask) size)

-- The locks of a level, cleared one after the other: those below n.
abbrev clear : ℕ → Context → Context
clear i c = with_secure c (stored 4 c.secure i (put lock_bit 1 (number_at 4 c.secure i) 0))

abbrev pub cleared_below : ℕ → Context → Context
cleared_below zero c = c
cleared_below (suc n) c = clear n (cleared_below n c)

module _ (z : Shape) (p : VirtualProcessor) (l : ℕ) where
  pub cleared-more : (n : ℕ) {q r : VirtualProcessor} → length p.contexts ≡ 4 → q ≡ altered z p l (cleared_below n) → r ≡ lock_cleared z q l n
      → r ≡ altered z p l (cleared_below (n + 1))
  unfolding set_secure
  cleared-more n size e f = rw (f, e, add-one) (altered-again z p l (cleared_below n) (clear n) size)

  pub cleared-all : altered z p l (cleared_below 4) ≡ unlocked z p l
  unfolding unlocked cleared
  cleared-all = refl
