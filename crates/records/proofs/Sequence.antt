-- The sequence of the records rises by rank, and has exactly the places that a state has. Assumes nothing.
use mathlib.Core.Path.{◌≡◌, refl, sym, ap, ◌∙◌}
use mathlib.Core.Bool.{Bool, true, false, not, cond, ◌&&◌, ◌||◌, and-false}
use mathlib.Core.List.{List, [], ◌∷◌, ◌++◌, map}
use Prim.Native.Nat.{ℕ, zero, suc, ◌+◌, ◌*◌, ◌≤◌, ◌<◌}
use native.Mathlib.Omega.{arith}
use lib.Dec.{ltb, leb, eqb}
use lib.ListN.{length}
use borrow.Author.Tests.{lt-ltb, le-ltb, le-leb, ltb-true, ltb-false, leb-true, eq-eqb, eqb-true, eqb-false, ne_eqb, not-true}
use Rattle.model.specs.Registers.{is_private}
use Rattle.model.specs.declared.machine.Shape.{Shape}
use Rattle.model.specs.declared.quantity.Level.{Level}
use Rattle.model.specs.State.{level, top, is_level}
use Rattle.model.specs.declared.quantity.Page.{Page}
use Rattle.model.specs.declared.quantity.Processor.{Processor}
use Rattle.model.proofs.Bools.{and_left, and_right}
use Rattle.script.specs.EventForms.{processor, page}
use Rattle.model.specs.declared.machine.Setup.{Setup}
use Rattle.records.specs.Places.{Place, PartitionEnabled, Mbec, Config, Active, Shared, Register, Tpr, Pending, Enabled, Secure, Reason, From, Rax, Rcx, Word, Mask, Intercepts, Cr0Mask, Cr4Mask, rising, private_count, shared_count, level_places, processor_places, upper_places, context_places, page_places, per_upper, cr_mask_places, of_levels, of_processors, of_contexts, of_pages, of_intercepts, of_cr_masks, places, known, upper, has, context_rank, end_rank, rank}
use Rattle.records.specs.Reading.{among}

-- Numbers of processors and levels for which there is room.
pub record Small (c : Setup) : Type 0 where
  pub processors : c.processors ≤ 4
  pub levels : top c.shape ≤ 3
  pub pages : c.pages ≤ 64

-- Registers below a count are private.
pub private-count : (z : Shape) (r : ℕ) → is_private z r ≡ ltb r (private_count z)
unfolding is_private
private-count z r = go z.dr6_shared (ltb r 12) refl
  where
    go : (b t : Bool) → ltb r 12 ≡ t → (ltb r 12 || eqb r 12 && not b) ≡ ltb r (cond b 12 13)
    go true true e = rw e
    go true false e = rw (e, and-false (eqb r 12))
    go false true e = rw (e, lt-ltb r 13 (omega (arith, ltb-true r 12 e)))
    go false false e = rw e (other (eqb r 12) refl)
      where
        other : (u : Bool) → eqb r 12 ≡ u → (eqb r 12 && true) ≡ ltb r 13
        other true k = rw (k, lt-ltb r 13 (omega (arith, eqb-true r 12 k)))
        other false k =
            let apart : (r ≡ 12 → ⊥) = eqb-false r 12 k in
            rw (k, le-ltb r 13 (omega (arith, ltb-false r 12 e)))

pub counts : (z : Shape) → private_count z + shared_count z ≡ 32
counts z = go z.dr6_shared
  where
    go : (b : Bool) → cond b 12 13 + cond b 20 19 ≡ 32
    go true = refl
    go false = refl

pub count-bounds : (z : Shape) → (12 ≤ private_count z) × (private_count z ≤ 13)
count-bounds z = go z.dr6_shared
  where
    go : (b : Bool) → (12 ≤ cond b 12 13) × (cond b 12 13 ≤ 13)
    go true = omega arith
    go false = omega arith

pub upper-true : (z : Shape) (t : Level) → top z ≤ 3 → 0 < t.0 → t.0 ≤ top z → upper z t ≡ true
unfolding is_level
upper-true z t m a b = rw (lt-ltb 0 t.0 a, le-leb t.0 (top z) b, lt-ltb t.0 4 (omega arith))

pub level-true : (z : Shape) (l : ℕ) → top z ≤ 3 → l ≤ top z → is_level z l ≡ true
unfolding is_level
level-true z l m b = rw (le-leb l (top z) b, lt-ltb l 4 (omega arith))

-- The parts of a conjunction of three.
pub first_two : (a b d : Bool) → (a && (b && d)) ≡ true → (a && b) ≡ true
first_two true true d h = refl
first_two true false d h = h
first_two false b d h = h

pub third : (a b d : Bool) → (a && (b && d)) ≡ true → d ≡ true
third a b d h = and_right b d (and_right a (b && d) h)

-- Places whose ranks rise from lo on and end below hi, all of which a state has.
abbrev pub Run : Setup → ℕ → List Place → ℕ → Type 0
Run c lo [] hi = lo ≤ hi
Run c lo (p ∷ ps) hi = (lo ≤ rank p) × (has c p ≡ true) × Run c (suc (rank p)) ps hi

module _ (c : Setup) where
  run-lower : (lo mid hi : ℕ) (ps : List Place) → lo ≤ mid → Run c mid ps hi → Run c lo ps hi
  run-lower lo mid hi [] l r = omega arith
  run-lower lo mid hi (p ∷ ps) l (a, h, r) = (omega arith, h, r)

  run-within : (lo mid hi end : ℕ) (ps : List Place) → lo ≤ mid → hi ≤ end → Run c mid ps hi → Run c lo ps end
  run-within lo mid hi end [] l m r = omega arith
  run-within lo mid hi end (p ∷ ps) l m (a, h, r) = (omega arith, h, run-within (suc (rank p)) (suc (rank p)) hi end ps (omega arith) m r)

  run-append : (lo mid hi : ℕ) (ps qs : List Place) → Run c lo ps mid → Run c mid qs hi → Run c lo (ps ++ qs) hi
  run-append lo mid hi [] qs r t = run-lower lo mid hi qs r t
  run-append lo mid hi (p ∷ ps) qs (a, h, r) t = (a, h, run-append (suc (rank p)) mid hi ps qs r t)

  run-rising : (b : ℕ → ℕ) (f : ℕ → List Place) (start count end : ℕ) → start + count ≡ end
      → ((i : ℕ) → start ≤ i → i < end → Run c (b i) (f i) (b (suc i))) → Run c (b start) (rising start count f) (b end)
  unfolding rising
  run-rising b f start zero end e h = let same : start ≡ end = omega arith in rw same (omega arith)
  run-rising b f start (suc count) end e h =
      run-append (b start) (b (suc start)) (b end) (f start) (rising (suc start) count f) (h start (omega arith) (omega arith))
      (run-rising b f (suc start) count end (omega arith) (λ i l m. h i (omega arith) m))

  -- One place for each number.
  run-each : (place : ℕ → Place) (base start count end : ℕ) → start + count ≡ end → ((i : ℕ) → rank (place i) ≡ base + i)
      → ((i : ℕ) → start ≤ i → i < end → has c (place i) ≡ true) → Run c (base + start) (rising start count (λ i. place i ∷ [])) (base + end)
  run-each place base start count end e r h =
      run-rising (λ i. base + i) (λ i. place i ∷ []) start count end e (λ i l m. (omega (arith, r i), h i l m, omega (arith, r i)))

module _ (c : Setup) (small : Small c) where
  private-true : (r : ℕ) → r < private_count c.shape → is_private c.shape r ≡ true
  private-true r h = private-count c.shape r ∙ lt-ltb r (private_count c.shape) h

  shared-true : (r : ℕ) → private_count c.shape ≤ r → is_private c.shape r ≡ false
  shared-true r h = private-count c.shape r ∙ le-ltb r (private_count c.shape) h

  known-true : (v : Processor) → v.0 < c.processors → known c v ≡ true
  known-true v h = rw (lt-ltb v.0 c.processors h, lt-ltb v.0 4 (omega arith))

  up : (t : Level) → 1 ≤ t.0 → t.0 < 1 + top c.shape → upper c.shape t ≡ true
  up t a b = upper-true c.shape t small.levels a (omega arith)

  levels-run : Run c 4 (of_levels c) (4 * (1 + top c.shape))
  unfolding rank has
  levels-run = run-rising c (λ t. 4 * t) (λ t. level_places (level t)) 1 (top c.shape) (1 + top c.shape) refl
      (λ t a b. (omega arith, up (level t) a b, (omega arith, up (level t) a b, (omega arith, up (level t) a b, omega arith))))

  processors-run : Run c 100 (of_processors c) (100 + 100 * c.processors)
  unfolding rank has
  processors-run = run-rising c (λ v. 100 + 100 * v) (λ v. processor_places c.shape (processor v)) 0 c.processors c.processors (omega arith)
      (λ v a b. (omega arith, known-true (processor v) b, shareds (processor v) b))
    where
      shareds : (v : Processor) → v.0 < c.processors
          → Run c (suc (100 + 100 * v.0)) (rising (private_count c.shape) (shared_count c.shape) (λ r. Shared v r ∷ [])) (100 + 100 * suc v.0)
      shareds v b =
          run-within c (suc (100 + 100 * v.0)) (100 + 100 * v.0 + private_count c.shape) (100 + 100 * v.0 + 32) (100 + 100 * suc v.0)
          (rising (private_count c.shape) (shared_count c.shape) (λ r. Shared v r ∷ [])) (omega (arith, count-bounds c.shape)) (omega arith)
          (run-each c (Shared v) (100 + 100 * v.0) (private_count c.shape) (shared_count c.shape) 32 (counts c.shape) (λ r. refl)
          (λ r l m. rw (known-true v b, shared-true r l, lt-ltb r 32 m)))

  module _ (v : Processor) (l : Level) (b : v.0 < c.processors) (m : l.0 ≤ top c.shape) where
    abbrev at : ℕ
    at = context_rank v l

    on : is_level c.shape l.0 ≡ true
    on = level-true c.shape l.0 small.levels m

    registers-run : Run c at (rising 0 (private_count c.shape) (λ r. Register v l r ∷ [])) (at + 20)
    unfolding rank has
    registers-run =
        run-within c at (at + 0) (at + private_count c.shape) (at + 20) (rising 0 (private_count c.shape) (λ r. Register v l r ∷ []))
        (omega arith) (omega (arith, count-bounds c.shape))
        (run-each c (Register v l) at 0 (private_count c.shape) (private_count c.shape) (omega arith) (λ r. refl)
        (λ r a k. rw (known-true v b, on, private-true r k)))

    vectors-run : Run c (at + 20) (Tpr v l ∷ rising 0 4 (λ i. Pending v l i ∷ [])) (at + 30)
    unfolding rank has
    vectors-run = (
      omega arith,
      rw (known-true v b, on),
      run-within c (suc (at + 20)) (at + 21 + 0) (at + 21 + 4) (at + 30) (rising 0 4 (λ i. Pending v l i ∷ [])) (omega arith) (omega arith)
          (run-each c (Pending v l) (at + 21) 0 4 4 refl (λ i. refl) (λ i a k. rw (known-true v b, on, lt-ltb i 4 k))),
    )

    upper-run : 0 < l.0 → Run c (at + 30) (upper_places v l) (at + 100)
    unfolding rank has
    upper-run h =
        let u : upper c.shape l ≡ true = up l h (omega arith) in
        let k : (known c v && upper c.shape l) ≡ true = rw (known-true v b, u) in
        run-append c (at + 30) (at + 40) (at + 100) (Enabled v l ∷ rising 0 l.0 (λ k. Secure v l (level k) ∷ [])) _ (
          omega arith,
          k,
          run-within c (suc (at + 30)) (at + 31 + 0) (at + 31 + l.0) (at + 40) (rising 0 l.0 (λ k. Secure v l (level k) ∷ [])) (omega arith) (omega arith)
              (run-each c (λ k. Secure v l (level k)) (at + 31) 0 l.0 l.0 (omega arith) (λ i. refl) (λ i a j. rw (known-true v b, on, lt-ltb i l.0 j))),
        )
        (omega arith, k, (omega arith, k, (omega arith, k, (omega arith, k, omega arith))))

    context-run : Run c at (context_places c.shape v l) (at + 100)
    context-run =
        run-append c at (at + 30) (at + 100) (rising 0 (private_count c.shape) (λ r. Register v l r ∷ []) ++ Tpr v l ∷ rising 0 4 (λ i. Pending v l i ∷ [])) _
        (run-append c at (at + 20) (at + 30) (rising 0 (private_count c.shape) (λ r. Register v l r ∷ [])) _ registers-run vectors-run)
        (go (eqb l.0 0) refl)
      where
        go : (t : Bool) → eqb l.0 0 ≡ t → Run c (at + 30) (cond t [] (upper_places v l)) (at + 100)
        go true e = omega arith
        go false e = upper-run (let apart : (l.0 ≡ 0 → ⊥) = eqb-false l.0 0 e in omega arith)

  levels-of : ℕ → ℕ → List Place
  levels-of v l = context_places c.shape (processor v) (level l)

  contexts-run : Run c 500 (of_contexts c) (500 + 400 * c.processors)
  unfolding levels-of
  contexts-run = run-rising c (λ v. 500 + 400 * v) (λ v. rising 0 (suc (top c.shape)) (levels-of v)) 0 c.processors c.processors (omega arith)
      (λ v a b. run-within c (500 + 400 * v) (500 + 400 * v + 100 * 0) (500 + 400 * v + 100 * suc (top c.shape)) (500 + 400 * suc v)
      (rising 0 (suc (top c.shape)) (levels-of v)) (omega arith) (omega arith)
      (run-rising c (λ l. 500 + 400 * v + 100 * l) (levels-of v) 0 (suc (top c.shape)) (suc (top c.shape)) (omega arith)
      (λ l k m. run-within c (500 + 400 * v + 100 * l) (context_rank (processor v) (level l)) (context_rank (processor v) (level l) + 100) (500 + 400 * v + 100 * suc l)
      (levels-of v l) (omega arith) (omega arith) (context-run (processor v) (level l) b (omega arith)))))

  pages-run : Run c 2100 (of_pages c) (2100 + 10 * c.pages)
  unfolding rank has
  pages-run = run-rising c (λ p. 2100 + 10 * p) (λ p. page_places c.shape (page p)) 0 c.pages c.pages (omega arith)
      (λ p a b. (omega arith, lt-ltb p c.pages b, masks (page p) b))
    where
      masks : (p : Page) → p.0 < c.pages → Run c (suc (2100 + 10 * p.0)) (rising 1 (top c.shape) (λ t. Mask p (level t) ∷ [])) (2100 + 10 * suc p.0)
      masks p b =
          run-within c (suc (2100 + 10 * p.0)) (2100 + 10 * p.0 + 1) (2100 + 10 * p.0 + (1 + top c.shape)) (2100 + 10 * suc p.0)
          (rising 1 (top c.shape) (λ t. Mask p (level t) ∷ [])) (omega arith) (omega arith)
          (run-each c (λ t. Mask p (level t)) (2100 + 10 * p.0) 1 (top c.shape) (1 + top c.shape) refl (λ t. refl)
          (λ t a k. rw (up (level t) a k, lt-ltb p.0 c.pages b, lt-ltb p.0 64 (omega arith))))

  -- Per processor and level from 1: ten numbers are for a processor, and `at` is where those of a level begin.
  uppers-run : (f : Processor → Level → List Place) (base : ℕ) (at : ℕ → ℕ) → ((n : ℕ) → n ≤ 4 → at n ≤ 10)
      → ((v : Processor) (t : Level) → (known c v && upper c.shape t) ≡ true → Run c (base + 10 * v.0 + at t.0) (f v t) (base + 10 * v.0 + at (suc t.0)))
      → Run c base (per_upper c f) (base + 10 * c.processors)
  uppers-run f base at narrow h =
      run-within c base (base + 10 * 0) (base + 10 * c.processors) (base + 10 * c.processors) (per_upper c f) (omega arith) (omega arith)
      (run-rising c (λ v. base + 10 * v) (λ v. rising 1 (top c.shape) (λ t. f (processor v) (level t))) 0 c.processors c.processors (omega arith)
      (λ v a b. run-within c (base + 10 * v) (base + 10 * v + at 1) (base + 10 * v + at (1 + top c.shape)) (base + 10 * suc v)
      (rising 1 (top c.shape) (λ t. f (processor v) (level t))) (omega arith) (omega (arith, narrow (1 + top c.shape) (omega (arith, small.levels))))
      (run-rising c (λ t. base + 10 * v + at t) (λ t. f (processor v) (level t)) 1 (top c.shape) (1 + top c.shape) refl
      (λ t k m. h (processor v) (level t) (rw (known-true (processor v) b) (up (level t) k m))))))

  intercepts-run : Run c 2800 (of_intercepts c) (2800 + 10 * c.processors)
  unfolding rank has
  intercepts-run = uppers-run (λ v t. Intercepts v t ∷ []) 2800 (λ t. t) (λ n h. omega arith) (λ v t h. (omega arith, h, omega arith))

  cr-masks-run : Run c 2900 (of_cr_masks c) (2900 + 10 * c.processors)
  unfolding rank has
  cr-masks-run = uppers-run cr_mask_places 2900 (λ t. 2 * t) (λ n h. omega arith) (λ v t h. (omega arith, h, (omega arith, h, omega arith)))

  pub places-run : Run c 0 (places c) (end_rank c)
  unfolding places
  places-run =
      run-append c 0 2900 (end_rank c) (of_levels c ++ of_processors c ++ of_contexts c ++ of_pages c ++ of_intercepts c) (of_cr_masks c)
      (run-append c 0 2800 2900 (of_levels c ++ of_processors c ++ of_contexts c ++ of_pages c) (of_intercepts c)
      (run-append c 0 2100 2800 (of_levels c ++ of_processors c ++ of_contexts c) (of_pages c)
      (run-append c 0 500 2100 (of_levels c ++ of_processors c) (of_contexts c)
      (run-append c 0 100 500 (of_levels c) (of_processors c)
      (run-within c 0 4 (4 * (1 + top c.shape)) 100 (of_levels c) (omega arith) (omega arith) levels-run)
      (run-within c 100 100 (100 + 100 * c.processors) 500 (of_processors c) (omega arith) (omega arith) processors-run))
      (run-within c 500 500 (500 + 400 * c.processors) 2100 (of_contexts c) (omega arith) (omega arith) contexts-run))
      (run-within c 2100 2100 (2100 + 10 * c.pages) 2800 (of_pages c) (omega arith) (omega arith) pages-run))
      (run-within c 2800 2800 (2800 + 10 * c.processors) 2900 (of_intercepts c) (omega arith) (omega arith) intercepts-run))
      cr-masks-run

-- A place is among some.
pub data In {A : Type 0} : A → List A → Type 0 where
  here : {p : A} {ps : List A} → In p (p ∷ ps)
  there : {p q : A} {ps : List A} → In p ps → In p (q ∷ ps)

in_left : {p : Place} {ps : List Place} (qs : List Place) → In p ps → In p (ps ++ qs)
in_left qs here = here
in_left qs (there m) = there (in_left qs m)

in_right : {p : Place} (ps : List Place) {qs : List Place} → In p qs → In p (ps ++ qs)
in_right [] m = m
in_right (q ∷ ps) m = there (in_right ps m)

in-rising : {p : Place} (f : ℕ → List Place) (start count i : ℕ) → start ≤ i → i < start + count → In p (f i) → In p (rising start count f)
unfolding rising
in-rising f start zero i a b m = absurd (omega arith)
in-rising {p} f start (suc count) i a b m = go (eqb i start) refl (λ h. in-rising f (suc start) count i h (omega arith) m)
  where
    go : (t : Bool) → eqb i start ≡ t → (suc start ≤ i → In p (rising (suc start) count f)) → In p (f start ++ rising (suc start) count f)
    go true e more = in_left (rising (suc start) count f) (rw (eqb-true i start e) at m)
    go false e more = in_right (f start) (more (let apart : (i ≡ start → ⊥) = eqb-false i start e in omega arith))

module _ (c : Setup) where
  reach : (l : ℕ) → is_level c.shape l ≡ true → l ≤ top c.shape
  unfolding is_level
  reach l h = leb-true l (top c.shape) (and_left (leb l (top c.shape)) (ltb l 4) h)

  within : (v : Processor) → known c v ≡ true → v.0 < c.processors
  within v h = ltb-true v.0 c.processors (and_left (ltb v.0 c.processors) (ltb v.0 4) h)

  above : (t : Level) → upper c.shape t ≡ true → (0 < t.0) × (t.0 ≤ top c.shape)
  above t h = (ltb-true 0 t.0 (and_left (ltb 0 t.0) (is_level c.shape t.0) h), reach t.0 (and_right (ltb 0 t.0) (is_level c.shape t.0) h))

  in-levels : {p : Place} (t : Level) → upper c.shape t ≡ true → In p (level_places t) → In p (places c)
  unfolding places
  in-levels t h m =
      in_left _ (in_left _ (in_left _ (in_left _ (in_left _ (in-rising (λ t. level_places (level t)) 1 (top c.shape) t.0 (above t h).0 (omega (arith, above t h)) m)))))

  in-processors : {p : Place} (v : Processor) → known c v ≡ true → In p (processor_places c.shape v) → In p (places c)
  unfolding places
  in-processors v h m =
      in_left _ (in_left _ (in_left _ (in_left _ (in_right (of_levels c)
      (in-rising (λ v. processor_places c.shape (processor v)) 0 c.processors v.0 (omega arith) (omega (arith, within v h)) m)))))

  in-contexts : {p : Place} (v : Processor) (l : Level) → known c v ≡ true → is_level c.shape l.0 ≡ true → In p (context_places c.shape v l) → In p (places c)
  unfolding places
  in-contexts v l h k m =
      in_left _ (in_left _ (in_left _ (in_right (of_levels c ++ of_processors c)
      (in-rising (λ v. rising 0 (suc (top c.shape)) (λ l. context_places c.shape (processor v) (level l))) 0 c.processors v.0 (omega arith) (omega (arith, within v h))
      (in-rising (λ l. context_places c.shape v (level l)) 0 (suc (top c.shape)) l.0 (omega arith) (omega (arith, reach l.0 k)) m)))))

  in-upper : {p : Place} (v : Processor) (l : Level) → (known c v && upper c.shape l) ≡ true → In p (upper_places v l) → In p (places c)
  in-upper {p} v l h m =
      let u = and_right (known c v) (upper c.shape l) h in
      let low : eqb l.0 0 ≡ false = ne_eqb l.0 0 (λ e. omega (arith, above l u)) in
      in-contexts v l (and_left (known c v) (upper c.shape l) h) (and_right (ltb 0 l.0) (is_level c.shape l.0) u)
      (in_right (rising 0 (private_count c.shape) (λ r. Register v l r ∷ []) ++ Tpr v l ∷ rising 0 4 (λ i. Pending v l i ∷ []))
      (rw low m))

  in-lower : {p : Place} (v : Processor) (l : Level) → (known c v && is_level c.shape l.0) ≡ true
      → In p (rising 0 (private_count c.shape) (λ r. Register v l r ∷ []) ++ Tpr v l ∷ rising 0 4 (λ i. Pending v l i ∷ [])) → In p (places c)
  in-lower v l h m =
      in-contexts v l (and_left (known c v) (is_level c.shape l.0) h) (and_right (known c v) (is_level c.shape l.0) h) (in_left _ m)

  in-pages : {p : Place} (i : Page) → i.0 < c.pages → In p (page_places c.shape i) → In p (places c)
  unfolding places
  in-pages i h m =
      in_left _ (in_left _ (in_right (of_levels c ++ of_processors c ++ of_contexts c)
      (in-rising (λ i. page_places c.shape (page i)) 0 c.pages i.0 (omega arith) (omega arith) m)))

  in-uppers : {p : Place} (f : Processor → Level → List Place) (v : Processor) (t : Level) → (known c v && upper c.shape t) ≡ true → In p (f v t) → In p (per_upper c f)
  in-uppers f v t h m =
      let u = above t (and_right (known c v) (upper c.shape t) h) in
      in-rising (λ v. rising 1 (top c.shape) (λ t. f (processor v) (level t))) 0 c.processors v.0 (omega arith)
      (omega (arith, within v (and_left (known c v) (upper c.shape t) h)))
      (in-rising (λ t. f v (level t)) 1 (top c.shape) t.0 u.0 (omega arith) m)

  in-intercepts : {p : Place} (v : Processor) (t : Level) → (known c v && upper c.shape t) ≡ true → In p (Intercepts v t ∷ []) → In p (places c)
  unfolding places
  in-intercepts v t h m =
      in_left _ (in_right (of_levels c ++ of_processors c ++ of_contexts c ++ of_pages c) (in-uppers (λ v t. Intercepts v t ∷ []) v t h m))

  in-cr-masks : {p : Place} (v : Processor) (t : Level) → (known c v && upper c.shape t) ≡ true → In p (cr_mask_places v t) → In p (places c)
  unfolding places
  in-cr-masks v t h m = in_right (of_levels c ++ of_processors c ++ of_contexts c ++ of_pages c ++ of_intercepts c) (in-uppers cr_mask_places v t h m)

  -- Each place that a state has is in the sequence.
  pub member : (p : Place) → has c p ≡ true → In p (places c)
  unfolding has
  member (PartitionEnabled t) h = in-levels t h here
  member (Mbec t) h = in-levels t h (there here)
  member (Config t) h = in-levels t h (there (there here))
  member (Active v) h = in-processors v h here
  member (Shared v r) h =
      let low : private_count c.shape ≤ r = ltb-false r (private_count c.shape)
      (sym (private-count c.shape r) ∙ not-true _ (and_right (known c v) _ (first_two (known c v) (not (is_private c.shape r)) (ltb r 32) h))) in
      let high : r < 32 = ltb-true r 32 (third (known c v) (not (is_private c.shape r)) (ltb r 32) h) in
      in-processors v (and_left (known c v) _ h)
      (there (in-rising (λ r. Shared v r ∷ []) (private_count c.shape) (shared_count c.shape) r low (omega (arith, counts c.shape)) here))
  member (Register v l r) h =
      let low : r < private_count c.shape = ltb-true r _ (sym (private-count c.shape r) ∙ third (known c v) (is_level c.shape l.0) _ h) in
      in-lower v l (first_two (known c v) _ _ h) (in_left _ (in-rising (λ r. Register v l r ∷ []) 0 (private_count c.shape) r (omega arith) (omega arith) here))
  member (Tpr v l) h = in-lower v l h (in_right (rising 0 (private_count c.shape) (λ r. Register v l r ∷ [])) here)
  member (Pending v l i) h =
      let low : i < 4 = ltb-true i 4 (third (known c v) (is_level c.shape l.0) _ h) in
      in-lower v l (first_two (known c v) _ _ h)
      (in_right (rising 0 (private_count c.shape) (λ r. Register v l r ∷ [])) (there (in-rising (λ i. Pending v l i ∷ []) 0 4 i (omega arith) (omega arith) here)))
  member (Enabled v l) h = in-upper v l h here
  member (Secure v l k) h =
      let low : k.0 < l.0 = ltb-true k.0 l.0 (third (known c v) (is_level c.shape l.0) _ h) in
      let on : upper c.shape l ≡ true = rw (lt-ltb 0 l.0 (omega arith)) (and_right (known c v) _ (first_two (known c v) (is_level c.shape l.0) (ltb k.0 l.0) h)) in
      in-upper v l (rw (and_left (known c v) _ h) on) (in_left _ (there (in-rising (λ k. Secure v l (level k) ∷ []) 0 l.0 k.0 (omega arith) (omega arith) here)))
  member (Reason v l) h = in-upper v l h (in_right (Enabled v l ∷ rising 0 l.0 (λ k. Secure v l (level k) ∷ [])) here)
  member (From v l) h = in-upper v l h (in_right (Enabled v l ∷ rising 0 l.0 (λ k. Secure v l (level k) ∷ [])) (there here))
  member (Rax v l) h = in-upper v l h (in_right (Enabled v l ∷ rising 0 l.0 (λ k. Secure v l (level k) ∷ [])) (there (there here)))
  member (Rcx v l) h = in-upper v l h (in_right (Enabled v l ∷ rising 0 l.0 (λ k. Secure v l (level k) ∷ [])) (there (there (there here))))
  member (Intercepts v t) h = in-intercepts v t h here
  member (Cr0Mask v t) h = in-cr-masks v t h here
  member (Cr4Mask v t) h = in-cr-masks v t h (there here)
  member (Word p) h = in-pages p (ltb-true p.0 c.pages h) here
  member (Mask p t) h =
      let u = and_left (upper c.shape t) _ h in
      in-pages p (ltb-true p.0 c.pages (and_right (upper c.shape t) _ (first_two (upper c.shape t) (ltb p.0 c.pages) (ltb p.0 64) h)))
      (there (in-rising (λ t. Mask p (level t) ∷ []) 1 (top c.shape) t.0 (above t u).0 (omega (arith, above t u)) here))

-- What is looked up among rising places: the quantity at each.
module _ (c : Setup) where
  pub run-above : {p : Place} {ps : List Place} → In p ps → (lo hi : ℕ) → Run c lo ps hi → lo ≤ rank p
  run-above here lo hi (a, h, r) = a
  run-above (there {q = q} m) lo hi (a, h, r) = omega (arith, run-above m (suc (rank q)) hi r)

  pub run-has : {p : Place} {ps : List Place} → In p ps → (lo hi : ℕ) → Run c lo ps hi → has c p ≡ true
  run-has here lo hi (a, h, r) = h
  run-has (there {q = q} m) lo hi (a, h, r) = run-has m (suc (rank q)) hi r

  pub among_in : (g : Place → ℕ) {p : Place} {ps : List Place} → In p ps → (lo hi : ℕ) → Run c lo ps hi → among ps (map g ps) p ≡ g p
  unfolding among
  among_in g (here {p} {ps}) lo hi r = rw (eq-eqb (rank p) (rank p) refl)
  among_in g (there {p} {q} {ps} m) lo hi (a, h, r) =
      rw (ne_eqb (rank p) (rank q) (λ e. omega (arith, run-above m (suc (rank q)) hi r))) (among_in g m (suc (rank q)) hi r)

  -- What is looked up depends on what is given at each place alone.
  pub map_same : (f g : Place → ℕ) (ps : List Place) → ((p : Place) → In p ps → f p ≡ g p) → map f ps ≡ map g ps
  map_same f g [] h = refl
  map_same f g (p ∷ ps) h = rw (h p here, map_same f g ps (λ q m. h q (there m)))

  pub among-all : (ps : List Place) (xs : List ℕ) (lo hi : ℕ) → length xs ≡ length ps → Run c lo ps hi → map (among ps xs) ps ≡ xs
  unfolding among
  among-all [] [] lo hi e r = refl
  among-all [] (x ∷ xs) lo hi e r = absurd (omega arith)
  among-all (p ∷ ps) [] lo hi e r = absurd (omega arith)
  among-all (p ∷ ps) (x ∷ xs) lo hi e (a, h, r) =
      rw (eq-eqb (rank p) (rank p) refl)
      (ap (λ (more : List ℕ). x ∷ more)
      (map_same (among (p ∷ ps) (x ∷ xs)) (among ps xs) ps
      (λ q m. rw (ne_eqb (rank q) (rank p) (λ k. omega (arith, run-above m (suc (rank p)) hi r))))
      ∙ among-all ps xs (suc (rank p)) hi (omega arith) r))

  pub map-equal : (f g : Place → ℕ) {p : Place} {ps : List Place} → In p ps → map f ps ≡ map g ps → f p ≡ g p
  map-equal f g (here {p} {ps}) e = cc
  map-equal f g (there {p} {q} {ps} m) e = map-equal f g m (cc)
