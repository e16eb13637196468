-- The walk from the first place on goes along the sequence of the records. Assumes nothing.
use Rattle.std.specs.Prelude.{None, Option, Some}
use mathlib.Core.Path.{◌≡◌, refl, sym, ap, ◌∙◌}
use mathlib.Core.Bool.{Bool, true, false, cond, and-false}
use mathlib.Core.List.{List, [], ◌∷◌, ◌++◌}
use Prim.Native.Nat.{ℕ, zero, suc, ◌+◌, ◌≤◌, ◌<◌}
use native.Mathlib.Numerals.{add-one}
use native.Mathlib.Omega.{arith}
use lib.Dec.{eqb, ltb}
use borrow.Author.Tests.{lt-ltb, le-ltb, le-leb, lt-leb, ltb-true, ltb-false, eqb-false}
use Rattle.model.specs.declared.quantity.Level.{Level}
use Rattle.model.specs.declared.quantity.Processor.{Processor}
use Rattle.model.specs.State.{level, top}
use Rattle.script.specs.EventForms.{processor, page}
use Rattle.model.specs.declared.machine.Setup.{Setup}
use Rattle.records.specs.Places.{Place, Shared, Register, Tpr, Pending, Enabled, Secure, Reason, From, Rax, Rcx, Mask, Intercepts, Cr0Mask, rising, private_count, shared_count, level_places, processor_places, upper_places, context_places, page_places, per_upper, cr_mask_places, of_levels, of_processors, of_contexts, of_pages, of_intercepts, of_cr_masks, places, rank, end_rank}
use Rattle.records.specs.Walk.{upper_from, upper_at, placed, to_cr_mask, to_intercepts, to_page, to_mask, to_contexts, to_context, to_register, to_pending, to_secure, to_processor, to_shared, to_level, next_of, first_due}
use Rattle.records.proofs.Sequence.{Run, counts, count-bounds}

-- The walk from a goes over these places and comes to b.
abbrev pub Walk : Setup → Option Place → List Place → Option Place → Type 0
Walk c a [] b = a ≡ b
Walk c a (p ∷ ps) b = (a ≡ Some p) × Walk c (next_of c p) ps b

module _ (c : Setup) where
  walk_ends : {a d b e : Option Place} (ps : List Place) → a ≡ d → e ≡ b → Walk c d ps e → Walk c a ps b
  walk_ends [] p q h = p ∙ h ∙ q
  walk_ends {a = a} {d = d} {b = b} {e = e} (x ∷ ps) p q (h, k) =
      (p ∙ h, walk_ends {a = next_of c x} {d = next_of c x} {b = b} {e = e} ps refl q k)

  walk-append : (a m b : Option Place) (ps qs : List Place) → Walk c a ps m → Walk c m qs b → Walk c a (ps ++ qs) b
  walk-append a m b [] qs h k = walk_ends qs h refl k
  walk-append a m b (p ∷ ps) qs (h, g) k = (h, walk-append (next_of c p) m b ps qs g k)

  walk-rising : (enter : ℕ → Option Place) (f : ℕ → List Place) (start count end : ℕ) → start + count ≡ end
      → ((i : ℕ) → start ≤ i → i < end → Walk c (enter i) (f i) (enter (suc i))) → Walk c (enter start) (rising start count f) (enter end)
  unfolding rising
  walk-rising enter f start zero end e h = ap enter (omega arith)
  walk-rising enter f start (suc count) end e h =
      walk-append (enter start) (enter (suc start)) (enter end) (f start) (rising (suc start) count f) (h start (omega arith) (omega arith))
      (walk-rising enter f (suc start) count end (omega arith) (λ i l m. h i (omega arith) m))

  walk-each : (enter : ℕ → Option Place) (place : ℕ → Place) (start count end : ℕ) → start + count ≡ end
      → ((i : ℕ) → start ≤ i → i < end → enter i ≡ Some (place i)) → ((i : ℕ) → next_of c (place i) ≡ enter (i + 1))
      → Walk c (enter start) (rising start count (λ i. place i ∷ [])) (enter end)
  walk-each enter place start count end e h k =
      walk-rising enter (λ i. place i ∷ []) start count end e (λ i l m. (h i l m, k i ∙ ap enter (add-one i)))

  levels-walk : Walk c (to_level c 1) (of_levels c) (to_processor c 0)
  unfolding to_level next_of
  levels-walk =
      walk_ends (of_levels c) refl (rw (lt-leb (1 + top c.shape) (top c.shape) (omega arith)))
      (walk-rising (to_level c) (λ t. level_places (level t)) 1 (top c.shape) (1 + top c.shape) refl
      (λ t a b. (rw (le-leb t (top c.shape) (omega arith)), (refl, (refl, ap (to_level c) (add-one t))))))

  shared-walk : (v : Processor)
      → Walk c (Some (Shared v (private_count c.shape))) (rising (private_count c.shape) (shared_count c.shape) (λ r. Shared v r ∷ [])) (to_processor c (suc v.0))
  unfolding to_shared next_of
  shared-walk v =
      walk_ends (rising (private_count c.shape) (shared_count c.shape) (λ r. Shared v r ∷ []))
      (sym (rw (lt-ltb (private_count c.shape) 32 (omega (arith, count-bounds c.shape))))) (ap (to_processor c) (add-one v.0))
      (walk-each (to_shared c v) (Shared v) (private_count c.shape) (shared_count c.shape) 32 (counts c.shape) (λ r a b. rw (lt-ltb r 32 b)) (λ r. refl))

  processors-walk : Walk c (to_processor c 0) (of_processors c) (to_contexts c 0)
  unfolding to_processor next_of
  processors-walk =
      walk_ends (of_processors c) refl (rw (le-ltb c.processors c.processors (omega arith)))
      (walk-rising (to_processor c) (λ v. processor_places c.shape (processor v)) 0 c.processors c.processors (omega arith)
      (λ v a b. (rw (lt-ltb v c.processors b), shared-walk (processor v))))

  secures : Processor → Level → List Place
  secures v l = rising 0 l.0 (λ k. Secure v l (level k) ∷ [])

  registers : Processor → Level → List Place
  registers v l = rising 0 (private_count c.shape) (λ r. Register v l r ∷ [])

  upper-walk : (v : Processor) (l : Level) → 0 < l.0 → Walk c (Some (Enabled v l)) (upper_places v l) (to_context c v (suc l.0))
  unfolding to_secure next_of secures
  upper-walk v l h =
      walk-append (Some (Enabled v l)) (Some (Reason v l)) (to_context c v (suc l.0)) (Enabled v l ∷ secures v l) (Reason v l ∷ From v l ∷ Rax v l ∷ Rcx v l ∷ []) (
        refl,
        walk_ends (secures v l) refl (rw (le-ltb l.0 l.0 (omega arith)))
            (walk-each (to_secure v l) (λ k. Secure v l (level k)) 0 l.0 l.0 (omega arith) (λ k a b. rw (lt-ltb k l.0 b)) (λ k. refl)),
      )
      (refl, (refl, (refl, (refl, ap (to_context c v) (add-one l.0)))))

  registers-walk : (v : Processor) (l : Level) → l.0 ≤ top c.shape → Walk c (to_context c v l.0) (registers v l) (Some (Tpr v l))
  unfolding to_context to_register next_of registers
  registers-walk v l h =
      walk_ends (registers v l)
      (rw (le-leb l.0 (top c.shape) h) (sym (rw (lt-ltb 0 (private_count c.shape) (omega (arith, count-bounds c.shape))))))
      (rw (le-ltb (private_count c.shape) (private_count c.shape) (omega arith)))
      (walk-each (to_register c v l) (Register v l) 0 (private_count c.shape) (private_count c.shape) (omega arith)
      (λ r a b. rw (lt-ltb r (private_count c.shape) b)) (λ r. refl))

  context-walk : (v : Processor) (l : Level) → l.0 ≤ top c.shape → Walk c (to_context c v l.0) (context_places c.shape v l) (to_context c v (suc l.0))
  unfolding to_pending next_of registers
  context-walk v l h =
      walk-append (to_context c v l.0) (to_pending c v l 4) (to_context c v (suc l.0)) (registers v l ++ Tpr v l ∷ rising 0 4 (λ i. Pending v l i ∷ []))
      (cond (eqb l.0 0) [] (upper_places v l))
      (walk-append (to_context c v l.0) (Some (Tpr v l)) (to_pending c v l 4) (registers v l) (Tpr v l ∷ rising 0 4 (λ i. Pending v l i ∷ []))
      (registers-walk v l h)
      (refl, walk-each (to_pending c v l) (Pending v l) 0 4 4 refl (λ i a b. rw (lt-ltb i 4 b)) (λ i. refl)))
      (go (eqb l.0 0) refl)
    where
      go : (t : Bool) → eqb l.0 0 ≡ t
          → Walk c (cond t (to_context c v (l.0 + 1)) (Some (Enabled v l))) (cond t [] (upper_places v l)) (to_context c v (suc l.0))
      go true e = ap (to_context c v) (add-one l.0)
      go false e = upper-walk v l (let apart : (l.0 ≡ 0 → ⊥) = eqb-false l.0 0 e in omega arith)

  contexts : ℕ → List Place
  contexts v = rising 0 (suc (top c.shape)) (λ l. context_places c.shape (processor v) (level l))

  contexts-walk : Walk c (to_contexts c 0) (of_contexts c) (to_page c 0)
  unfolding to_contexts to_context contexts
  contexts-walk =
      walk_ends (of_contexts c) refl (rw (le-ltb c.processors c.processors (omega arith)))
      (walk-rising (to_contexts c) contexts 0 c.processors c.processors (omega arith)
      (λ v a b. walk_ends (contexts v)
      (rw (lt-ltb v c.processors b) (sym (rw (le-leb 0 (top c.shape) (omega arith)))))
      (rw (lt-leb (suc (top c.shape)) (top c.shape) (omega arith)) (ap (to_contexts c) (add-one v)))
      (walk-rising (to_context c (processor v)) (λ l. context_places c.shape (processor v) (level l)) 0 (suc (top c.shape)) (suc (top c.shape)) (omega arith)
      (λ l k m. context-walk (processor v) (level l) (omega arith)))))

  -- Per processor and level from 1: where each level's places lead to those of the next, all lead to the end.
  module _ (place : Processor → Level → Place) (f : Processor → Level → List Place) (end : Option Place)
      (each : (v : Processor) (t : Level) → Walk c (Some (place v t)) (f v t) (placed place end (upper_at c v (t.0 + 1)))) where
    enter : ℕ → Option Place
    enter v = placed place end (upper_from c v)

    -- A processor is entered at level 1, if there is one.
    first-upper : (v : ℕ) → v < c.processors → upper_from c v ≡ upper_at c (processor v) 1
    unfolding upper_at
    first-upper v h = rw (lt-ltb v c.processors h) (go (ltb 0 (top c.shape)) refl)
      where
        go : (b : Bool) → ltb 0 (top c.shape) ≡ b → cond b (Some (processor v, level 1)) None ≡ upper_at c (processor v) 1
        go true e = rw (le-leb 1 (top c.shape) (omega (arith, ltb-true 0 (top c.shape) e)))
        go false e = rw (lt-leb 1 (top c.shape) (omega (arith, ltb-false 0 (top c.shape) e)), and-false (ltb (v + 1) c.processors))

    uppers-walk : Walk c (placed place end (upper_from c 0)) (per_upper c f) end
    unfolding enter upper_at
    uppers-walk =
        walk_ends (per_upper c f) refl (rw (le-ltb c.processors c.processors (omega arith)))
        (walk-rising enter (λ v. rising 1 (top c.shape) (λ t. f (processor v) (level t))) 0 c.processors c.processors (omega arith)
        (λ v a b. walk_ends (rising 1 (top c.shape) (λ t. f (processor v) (level t)))
        (ap (placed place end) (first-upper v b))
        (rw (lt-leb (1 + top c.shape) (top c.shape) (omega arith), add-one v))
        (walk-rising (λ t. placed place end (upper_at c (processor v) t)) (λ t. f (processor v) (level t)) 1 (top c.shape) (1 + top c.shape) refl
        (λ t k m. walk_ends (f (processor v) (level t)) (rw (le-leb t (top c.shape) (omega arith))) (ap (λ n. placed place end (upper_at c (processor v) n)) (add-one t))
        (each (processor v) (level t))))))

  intercepts-walk : Walk c (to_intercepts c (upper_from c 0)) (of_intercepts c) (to_cr_mask (upper_from c 0))
  unfolding next_of
  intercepts-walk = uppers-walk Intercepts (λ v t. Intercepts v t ∷ []) (to_cr_mask (upper_from c 0)) (λ v t. (refl, refl))

  cr-masks-walk : Walk c (to_cr_mask (upper_from c 0)) (of_cr_masks c) None
  unfolding next_of
  cr-masks-walk = uppers-walk Cr0Mask cr_mask_places None (λ v t. (refl, (refl, refl)))

  pages-walk : Walk c (to_page c 0) (of_pages c) (to_intercepts c (upper_from c 0))
  unfolding to_page to_mask next_of
  pages-walk =
      walk_ends (of_pages c) refl (rw (le-ltb c.pages c.pages (omega arith)))
      (walk-rising (to_page c) (λ p. page_places c.shape (page p)) 0 c.pages c.pages (omega arith)
      (λ p a b. (
        rw (lt-ltb p c.pages b),
        walk_ends (rising 1 (top c.shape) (λ t. Mask (page p) (level t) ∷ [])) refl
            (rw (lt-leb (1 + top c.shape) (top c.shape) (omega arith)) (ap (to_page c) (add-one p)))
            (walk-each (to_mask c (page p)) (λ t. Mask (page p) (level t)) 1 (top c.shape) (1 + top c.shape) refl (λ t k m. rw (le-leb t (top c.shape) (omega arith))) (λ t. refl)),
      )))

  -- The walk from the first place goes over the whole sequence.
  pub places-walk : Walk c (first_due c) (places c) None
  unfolding places
  places-walk =
      walk-append (to_level c 1) (to_cr_mask (upper_from c 0)) None (of_levels c ++ of_processors c ++ of_contexts c ++ of_pages c ++ of_intercepts c) (of_cr_masks c)
      (walk-append (to_level c 1) (to_intercepts c (upper_from c 0)) (to_cr_mask (upper_from c 0)) (of_levels c ++ of_processors c ++ of_contexts c ++ of_pages c) (of_intercepts c)
      (walk-append (to_level c 1) (to_page c 0) (to_intercepts c (upper_from c 0)) (of_levels c ++ of_processors c ++ of_contexts c) (of_pages c)
      (walk-append (to_level c 1) (to_contexts c 0) (to_page c 0) (of_levels c ++ of_processors c) (of_contexts c)
      (walk-append (to_level c 1) (to_processor c 0) (to_contexts c 0) (of_levels c) (of_processors c) levels-walk processors-walk) contexts-walk)
      pages-walk)
      intercepts-walk)
      cr-masks-walk

-- The walk does not end at a place.
pub not-ended : {A : Type 0} {p : Place} → Some p ≡ None → A
not-ended h = absurd (let z : ◌≡◌ {A = ℕ} 0 1 = cc in omega arith)

-- The rank of what is due. It rises along the walk, and stays below the end.
abbrev pub due_rank : Setup → Option Place → ℕ
due_rank c (Some p) = rank p
due_rank c None = end_rank c

pub rank_rises : (c : Setup) (p : Place) (d : Option Place) (ps : List Place) → Walk c d ps None → Run c (suc (rank p)) ps (end_rank c) → rank p < due_rank c d
rank_rises c p (Some q) [] w r = not-ended w
rank_rises c p None [] w r = r
rank_rises c p (Some q) (x ∷ ps) w r = let e : q ≡ x = (let k = w.0 in cc) in rw e r.0
rank_rises c p None (x ∷ ps) w r = not-ended (sym w.0)

pub run-below : (c : Setup) (ps : List Place) (lo hi : ℕ) → Run c lo ps hi → lo ≤ hi
run-below c [] lo hi r = r
run-below c (p ∷ ps) lo hi (a, h, r) = omega (arith, run-below c ps (suc (rank p)) hi r)
