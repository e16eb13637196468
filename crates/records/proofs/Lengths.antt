-- The length of a state's text: how many places a machine has, and how long a record is at most. Assumes nothing.
use mathlib.Core.Path.{◌≡◌, refl}
use mathlib.Core.Bool.{Bool, true, false, cond}
use mathlib.Core.List.{List, [], ◌∷◌, ◌++◌, map}
use Prim.Native.Nat.{ℕ, zero, suc, ◌+◌, ◌*◌, ◌≤◌, ◌<◌}
use native.Mathlib.Nat.{mul-le-mul_right}
use native.Mathlib.Omega.{arith}
use lib.Dec.{eqb}
use lib.ListN.{length, length-append}
use Rattle.decimal.proofs.Digits.{few-digits, text-length}
use Rattle.decimal.specs.Write.{decimal}
use Rattle.model.specs.declared.machine.FirstLine.{FirstLine}
use Rattle.model.specs.declared.machine.Setup.{Setup}
use Rattle.model.specs.declared.quantity.Level.{Level}
use Rattle.model.specs.declared.quantity.Processor.{Processor}
use Rattle.model.specs.State.{level, top}
use Rattle.script.proofs.Cells.{cell-length}
use Rattle.script.specs.EventForms.{processor, page}
use Rattle.script.specs.LineForms.{tab}
use Rattle.script.specs.ListingLine.{cell, line_feed}
use Rattle.script.specs.Texts.{parted, first_line_of, first_text, written}
use Rattle.records.specs.RecordClaims.{ShortText}
use Rattle.records.specs.Places.{Place, PartitionEnabled, Mbec, Config, Active, Shared, Register, Tpr, Pending, Enabled, Secure, Reason, From, Rax, Rcx, Word, Mask, Intercepts, Cr0Mask, Cr4Mask, rising, private_count, shared_count, level_places, processor_places, upper_places, context_places, page_places, per_upper, cr_mask_places, of_levels, of_processors, of_contexts, of_pages, of_intercepts, of_cr_masks, places, has, end_rank, rank}
use Rattle.records.specs.RecordTexts.{head_of, closed, front, record_line, first_of, lines_at, record_lines, ended, records_text}
use Rattle.records.specs.Values.{setup_at, value_at}
use Rattle.records.proofs.Limits.{limits}
use Rattle.records.proofs.Sequence.{Small, Run, counts, count-bounds, places-run}
use Rattle.records.proofs.PlainStates.{small}

-- How long a rising list is if each number gives at most `most` places, and if each gives exactly one.
length-rising : (f : ℕ → List Place) (most start count end : ℕ) → start + count ≡ end → ((i : ℕ) → start ≤ i → i < end → length (f i) ≤ most)
    → length (rising start count f) ≤ count * most
unfolding rising
length-rising f most start zero end e h = omega arith
length-rising f most start (suc count) end e h =
    omega (
      arith,
      length-append (f start) (rising (suc start) count f),
      h start (omega arith) (omega arith),
      length-rising f most (suc start) count end (omega arith) (λ i l m. h i (omega arith) m),
    )

module _ (c : Setup) (few : Small c) where
  -- One place for each number.
  length-each : (place : ℕ → Place) (start count : ℕ) → length (rising start count (λ i. place i ∷ [])) ≤ count
  length-each place start count = omega (arith, length-rising (λ i. place i ∷ []) 1 start count (start + count) refl (λ i l m. omega arith))

  levels-count : length (of_levels c) ≤ 9
  levels-count = omega (arith, length-rising (λ t. level_places (level t)) 3 1 (top c.shape) (1 + top c.shape) refl (λ i l m. omega arith), few.levels)

  processors-count : length (of_processors c) ≤ 84
  processors-count =
      omega (
        arith,
        length-rising (λ v. processor_places c.shape (processor v)) 21 0 c.processors c.processors (omega arith)
            (λ v l m. omega (arith, length-each (Shared (processor v)) (private_count c.shape) (shared_count c.shape), counts c.shape, count-bounds c.shape)),
        few.processors,
      )

  upper-count : (v : Processor) (l : Level) → l.0 ≤ 3 → length (upper_places v l) ≤ 8
  upper-count v l h =
      omega (
        arith,
        length-append (rising 0 l.0 (λ k. Secure v l (level k) ∷ [])) (Reason v l ∷ From v l ∷ Rax v l ∷ Rcx v l ∷ []),
        length-each (λ k. Secure v l (level k)) 0 l.0,
      )

  more-count : (v : Processor) (l : Level) (b : Bool) → l.0 ≤ 3 → length (cond b [] (upper_places v l)) ≤ 8
  more-count v l true h = omega arith
  more-count v l false h = upper-count v l h

  context-count : (v : Processor) (l : Level) → l.0 ≤ 3 → length (context_places c.shape v l) ≤ 26
  context-count v l h =
      let registers = rising 0 (private_count c.shape) (λ r. Register v l r ∷ []) in
      let pending = rising 0 4 (λ i. Pending v l i ∷ []) in
      let more = cond (eqb l.0 0) [] (upper_places v l) in
      omega (
        arith,
        length-append (registers ++ Tpr v l ∷ pending) more,
        length-append registers (Tpr v l ∷ pending),
        length-each (Register v l) 0 (private_count c.shape),
        length-each (Pending v l) 0 4,
        more-count v l (eqb l.0 0) h,
        count-bounds c.shape,
      )

  contexts-count : length (of_contexts c) ≤ 416
  contexts-count =
      omega (
        arith,
        length-rising (λ v. rising 0 (suc (top c.shape)) (λ l. context_places c.shape (processor v) (level l))) 104 0 c.processors c.processors (omega arith)
            (λ v l m. omega (
              arith,
              length-rising (λ l. context_places c.shape (processor v) (level l)) 26 0 (suc (top c.shape)) (suc (top c.shape)) (omega arith)
                  (λ l k b. context-count (processor v) (level l) (omega (arith, few.levels))),
              few.levels,
            )),
        few.processors,
      )

  pages-count : length (of_pages c) ≤ 256
  pages-count =
      omega (
        arith,
        length-rising (λ p. page_places c.shape (page p)) 4 0 c.pages c.pages (omega arith)
            (λ p l m. omega (arith, length-each (λ t. Mask (page p) (level t)) 1 (top c.shape), few.levels)),
        few.pages,
      )

  -- Where each level from 1 of a processor has at most `most` places.
  uppers-count : (f : Processor → Level → List Place) (most : ℕ) → ((v : Processor) (t : Level) → length (f v t) ≤ most)
      → length (per_upper c f) ≤ 4 * (3 * most)
  uppers-count f most h =
      omega (
        arith,
        length-rising (λ v. rising 1 (top c.shape) (λ t. f (processor v) (level t))) (3 * most) 0 c.processors c.processors (omega arith)
            (λ v l m. omega (
              arith,
              length-rising (λ t. f (processor v) (level t)) most 1 (top c.shape) (1 + top c.shape) refl (λ t k b. h (processor v) (level t)),
              mul-le-mul_right most few.levels,
            )),
        mul-le-mul_right (3 * most) few.processors,
      )

  intercepts-count : length (of_intercepts c) ≤ 12
  intercepts-count = uppers-count (λ v t. Intercepts v t ∷ []) 1 (λ v t. omega arith)

  cr-masks-count : length (of_cr_masks c) ≤ 24
  cr-masks-count = uppers-count cr_mask_places 2 (λ v t. omega arith)

  -- A machine has at most 801 places.
  places_count : length (places c) ≤ 801
  unfolding places
  places_count =
      omega (
        arith,
        length-append (of_levels c ++ of_processors c ++ of_contexts c ++ of_pages c ++ of_intercepts c) (of_cr_masks c),
        length-append (of_levels c ++ of_processors c ++ of_contexts c ++ of_pages c) (of_intercepts c),
        length-append (of_levels c ++ of_processors c ++ of_contexts c) (of_pages c),
        length-append (of_levels c ++ of_processors c) (of_contexts c),
        length-append (of_levels c) (of_processors c),
        levels-count,
        processors-count,
        contexts-count,
        pages-count,
        intercepts-count,
        cr-masks-count,
      )

  -- The indices of a place have at most two digits, and there are at most three.
  abbrev Low : List ℕ → Type 0
  Low [] = Unit {0}
  Low (n ∷ numbers) = (n < 100) × Low numbers

  closed-length : (numbers : List ℕ) → Low numbers → length (closed numbers) ≤ 3 * length numbers
  unfolding closed
  closed-length [] h = omega arith
  closed-length (n ∷ numbers) h =
      omega (arith, length-append (cell n tab) (closed numbers), cell-length n tab, few-digits 2 n (omega arith) h.0, closed-length numbers h.1)

  low : (p : Place) → has c p ≡ true → Low (head_of p).indices
  unfolding head_of
  low (PartitionEnabled t) h = let b = limits c (PartitionEnabled t) h in (omega arith, tt)
  low (Mbec t) h = let b = limits c (Mbec t) h in (omega arith, tt)
  low (Config t) h = let b = limits c (Config t) h in (omega arith, tt)
  low (Active v) h = let b = limits c (Active v) h in (omega arith, tt)
  low (Shared v r) h = let b = limits c (Shared v r) h in (omega arith, (omega arith, tt))
  low (Register v l r) h = let b = limits c (Register v l r) h in (omega arith, (omega arith, (omega arith, tt)))
  low (Tpr v l) h = let b = limits c (Tpr v l) h in (omega arith, (omega arith, tt))
  low (Pending v l i) h = let b = limits c (Pending v l i) h in (omega arith, (omega arith, (omega arith, tt)))
  low (Enabled v l) h = let b = limits c (Enabled v l) h in (omega arith, (omega arith, tt))
  low (Secure v l k) h = let b = limits c (Secure v l k) h in (omega arith, (omega arith, (omega arith, tt)))
  low (Reason v l) h = let b = limits c (Reason v l) h in (omega arith, (omega arith, tt))
  low (From v l) h = let b = limits c (From v l) h in (omega arith, (omega arith, tt))
  low (Rax v l) h = let b = limits c (Rax v l) h in (omega arith, (omega arith, tt))
  low (Rcx v l) h = let b = limits c (Rcx v l) h in (omega arith, (omega arith, tt))
  low (Word p) h = let b = limits c (Word p) h in (omega (arith, few.pages), tt)
  low (Mask p t) h = let b = limits c (Mask p t) h in (omega arith, (omega arith, tt))
  low (Intercepts v l) h = let b = limits c (Intercepts v l) h in (omega arith, (omega arith, tt))
  low (Cr0Mask v l) h = let b = limits c (Cr0Mask v l) h in (omega arith, (omega arith, (omega arith, tt)))
  low (Cr4Mask v l) h = let b = limits c (Cr4Mask v l) h in (omega arith, (omega arith, (omega arith, tt)))

  -- A word has at most seven bytes.
  head-length : (p : Place) → (length (head_of p).word ≤ 7) × (length (head_of p).indices ≤ 3)
  unfolding head_of
  head-length (PartitionEnabled t) = (omega arith, omega arith)
  head-length (Mbec t) = (omega arith, omega arith)
  head-length (Config t) = (omega arith, omega arith)
  head-length (Active v) = (omega arith, omega arith)
  head-length (Shared v r) = (omega arith, omega arith)
  head-length (Register v l r) = (omega arith, omega arith)
  head-length (Tpr v l) = (omega arith, omega arith)
  head-length (Pending v l i) = (omega arith, omega arith)
  head-length (Enabled v l) = (omega arith, omega arith)
  head-length (Secure v l k) = (omega arith, omega arith)
  head-length (Reason v l) = (omega arith, omega arith)
  head-length (From v l) = (omega arith, omega arith)
  head-length (Rax v l) = (omega arith, omega arith)
  head-length (Rcx v l) = (omega arith, omega arith)
  head-length (Word p) = (omega arith, omega arith)
  head-length (Mask p t) = (omega arith, omega arith)
  head-length (Intercepts v l) = (omega arith, omega arith)
  head-length (Cr0Mask v l) = (omega arith, omega arith)
  head-length (Cr4Mask v l) = (omega arith, omega arith)

  record-length : (p : Place) (x : ℕ) → has c p ≡ true → length (record_line p x) ≤ 37
  unfolding record_line front
  record-length p x h =
      let head = head_of p in
      omega (
        arith,
        length-append (head.word ++ tab ∷ closed head.indices) (decimal x),
        length-append head.word (tab ∷ closed head.indices),
        closed-length head.indices (low p h),
        head-length p,
        text-length x,
      )

  records-length : (value : Place → ℕ) (ps : List Place) (lo hi : ℕ) → Run c lo ps hi → length (ended (lines_at value ps)) ≤ 38 * length ps
  unfolding ended
  records-length value [] lo hi r = omega arith
  records-length value (p ∷ ps) lo hi (a, h, r) =
      omega (
        arith,
        length-append (record_line p (value p)) (line_feed ∷ ended (lines_at value ps)),
        record-length p (value p) h,
        records-length value ps (suc (rank p)) hi r,
      )

parted-length : (numbers : List ℕ) → length (parted (map decimal numbers)) ≤ 21 * length numbers
unfolding parted
parted-length [] = omega arith
parted-length (n ∷ numbers) = omega (arith, length-append (tab ∷ decimal n) (parted (map decimal numbers)), text-length n, parted-length numbers)

pub first-length : (f : FirstLine) → length (first_line_of f) ≤ 129
unfolding first_line_of first_text written
first-length f = omega (arith, length-append (first_text f).form.word (parted (map decimal (first_text f).numbers)), parted-length (first_text f).numbers)

-- The text of a well-formed state has room in a buffer of 64 KB.
pub short-text : ShortText
unfolding records_text record_lines ended
short-text s w =
    let c = setup_at s in
    omega (
      arith,
      length-append (first_line_of (first_of c)) (line_feed ∷ ended (lines_at (value_at s) (places c))),
      first-length (first_of c),
      records-length c (small s w) (value_at s) (places c) 0 (end_rank c) (places-run c (small s w)),
      places_count c (small s w),
    )
