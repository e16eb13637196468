-- A quantity stored at a place is the one that is kept there, and every other place keeps its own: a slot tells its place, so different
-- places lie in different slots. Assumes nothing.
use mathlib.Core.Bool.{Bool, true, false, cond}
use mathlib.Core.List.{[]}
use mathlib.Core.Path.{◌≡◌, refl, sym, ap, ◌∙◌}
use Prim.Native.Nat.{ℕ, ◌+◌, ◌-◌, ◌*◌, ◌/◌, ◌%◌, ◌≤◌, ◌<◌, ◌^◌}
use native.Mathlib.Omega.{arith}
use lib.Dec.{eqb, ltb}
use lib.ListN.{get_or, length, length-set, set}
use lib.Seq.{get_or-set_same}
use borrow.Author.Tests.{le-ltb, lt-ltb, ne_eqb}
use Rattle.word.specs.Field.{bit, put}
use Rattle.word.proofs.FieldLaws.{bit-put-here, bit-put-other, put-lt}
use Rattle.model.specs.declared.quantity.Level.{Level}
use Rattle.model.specs.declared.quantity.Processor.{Processor}
use Rattle.model.specs.State.{level}
use Rattle.model.proofs.ArrayLaws.{set_cases}
use Rattle.processor.specs.Record.{cr0_mask_index, cr4_mask_index, intercepts, level_words, record_words}
use Rattle.script.specs.EventForms.{page, processor}
use Rattle.records.specs.declared.place.Place.{Place}
use Rattle.records.specs.declared.place.Place.TheVariants.{PartitionEnabled, Mbec, Config, Active, Shared, Register, Tpr, Pending, Enabled, Secure, Reason, From, Rax, Rcx, Word, Mask, Intercepts, Cr0Mask, Cr4Mask}
use Rattle.records.specs.Reading.{is_flag}
use Rattle.records.specs.Values.{number}
use Rattle.records.proofs.Made.{flag-back}
use Rattle.reader.specs.Slots.{Parts, Array, of_levels, of_masks, of_words, of_record, word_at, with_word, Slot, whole, one_bit, slot_of, in_slot, with_slot, kept_at, stored, Room}

-- What holds of a word, and of the one that is stored in its place, holds after the store.
word-cases : (P : ℕ → Type 0) (a b : Array) (i j x : ℕ) (m : Parts) → P (word_at b j m) → (b ≡ a → j ≡ i → P x) → P (word_at b j (with_word a i x m))
word-cases P of_levels of_levels i j x m h k = set_cases P m.levels i j x 0 h (λ e. k refl e)
word-cases P of_levels of_masks i j x m h k = h
word-cases P of_levels of_words i j x m h k = h
word-cases P of_levels (of_record u) i j x m h k = h
word-cases P of_masks of_levels i j x m h k = h
word-cases P of_masks of_masks i j x m h k = set_cases P m.masks i j x 0 h (λ e. k refl e)
word-cases P of_masks of_words i j x m h k = h
word-cases P of_masks (of_record u) i j x m h k = h
word-cases P of_words of_levels i j x m h k = h
word-cases P of_words of_masks i j x m h k = h
word-cases P of_words of_words i j x m h k = set_cases P m.words i j x 0 h (λ e. k refl e)
word-cases P of_words (of_record u) i j x m h k = h
word-cases P (of_record v) of_levels i j x m h k = h
word-cases P (of_record v) of_masks i j x m h k = h
word-cases P (of_record v) of_words i j x m h k = h
word-cases P (of_record v) (of_record u) i j x m h k =
    set_cases (λ row. P (get_or row j 0)) m.vps v u (set (get_or m.vps v []) i x) [] h
    (λ e. set_cases P (get_or m.vps v []) i j x 0 (rw e at h) (λ f. k (ap of_record e) f))

-- The arrays have their sizes.
pub record Sizes (m : Parts) : Type 0 where
  pub levels : length m.levels ≡ 6
  pub masks : length m.masks ≡ 256
  pub words : length m.words ≡ 64
  pub vps : length m.vps ≡ 4
  pub row : (v : ℕ) → v < 4 → length (get_or m.vps v []) ≡ record_words

-- The place of a word lies within its array.
abbrev Holds : Array → ℕ → Type 0
Holds of_levels i = i < 6
Holds of_masks i = i < 256
Holds of_words i = i < 64
Holds (of_record v) i = (v < 4) × (i < record_words)

module _ {m : Parts} (sizes : Sizes m) where
  word_same : (a : Array) (i x : ℕ) → Holds a i → word_at a i (with_word a i x m) ≡ x
  word_same of_levels i x h = get_or-set_same m.levels i x 0 (omega (arith, sizes.levels))
  word_same of_masks i x h = get_or-set_same m.masks i x 0 (omega (arith, sizes.masks))
  word_same of_words i x h = get_or-set_same m.words i x 0 (omega (arith, sizes.words))
  word_same (of_record v) i x h =
      rw (get_or-set_same m.vps v (set (get_or m.vps v []) i x) [] (omega (arith, sizes.vps)))
      (get_or-set_same (get_or m.vps v []) i x 0 (omega (arith, sizes.row v h.0)))

  sizes-row : (v i x u : ℕ) → u < 4 → length (get_or (set m.vps v (set (get_or m.vps v []) i x)) u []) ≡ record_words
  sizes-row v i x u h =
      set_cases (λ row. length row ≡ record_words) m.vps v u (set (get_or m.vps v []) i x) [] (sizes.row u h)
      (λ e. length-set (get_or m.vps v []) i x ∙ sizes.row v (omega arith))

  sizes-word : (a : Array) (i x : ℕ) → Sizes (with_word a i x m)
  sizes-word of_levels i x = record {
    levels = length-set m.levels i x ∙ sizes.levels;
    masks = sizes.masks;
    words = sizes.words;
    vps = sizes.vps;
    row = sizes.row;
  }
  sizes-word of_masks i x = record {
    levels = sizes.levels;
    masks = length-set m.masks i x ∙ sizes.masks;
    words = sizes.words;
    vps = sizes.vps;
    row = sizes.row;
  }
  sizes-word of_words i x = record {
    levels = sizes.levels;
    masks = sizes.masks;
    words = length-set m.words i x ∙ sizes.words;
    vps = sizes.vps;
    row = sizes.row;
  }
  sizes-word (of_record v) i x = record {
    levels = sizes.levels;
    masks = sizes.masks;
    words = sizes.words;
    vps = length-set m.vps v (set (get_or m.vps v []) i x) ∙ sizes.vps;
    row = sizes-row v i x;
  }

  pub sizes-slot : (s : Slot) (x : ℕ) → Sizes (with_slot s x m)
  sizes-slot (whole a i) x = sizes-word a i x
  sizes-slot (one_bit a i b) x = sizes-word a i (put b 1 (word_at a i m) x)

-- The words that hold sets of levels, whose bits are slots.
abbrev pub flagged : Array → ℕ → Bool
flagged of_levels i = ltb i 2
flagged of_masks i = false
flagged of_words i = false
flagged (of_record v) i = eqb i 1

abbrev pub Right : Slot → Type 0
Right (whole a i) = flagged a i ≡ false
Right (one_bit a i b) = (flagged a i ≡ true) × (b < 4)

abbrev Within : Slot → Type 0
Within (whole a i) = Holds a i
Within (one_bit a i b) = Holds a i

clash : {A : Type 0} {a b : Array} {i j : ℕ} → flagged a i ≡ true → flagged b j ≡ false → a ≡ b → i ≡ j → A
clash h k e f = absurd (let t : true ≡ false = sym h ∙ (λ n. flagged (e n) (f n)) ∙ k in let z : ◌≡◌ {A = ℕ} 0 1 = cc in omega arith)

-- Another slot keeps its quantity.
pub slot-other : (s t : Slot) (x : ℕ) (m : Parts) → Right s → Right t → (t ≡ s → ⊥) → in_slot t (with_slot s x m) ≡ in_slot t m
slot-other (whole a i) (whole b j) x m r q h = word-cases (λ y. y ≡ word_at b j m) a b i j x m refl (λ e f. absurd (h (λ n. whole (e n) (f n))))
slot-other (whole a i) (one_bit b j d) x m r q h =
    word-cases (λ y. number (bit y d) ≡ number (bit (word_at b j m) d)) a b i j x m refl (λ e f. clash q.0 r e f)
slot-other (one_bit a i c) (whole b j) x m r q h =
    word-cases (λ y. y ≡ word_at b j m) a b i j (put c 1 (word_at a i m) x) m refl (λ e f. clash r.0 q (sym e) (sym f))
slot-other (one_bit a i c) (one_bit b j d) x m r q h =
    word-cases (λ y. number (bit y d) ≡ number (bit (word_at b j m) d)) a b i j (put c 1 (word_at a i m) x) m refl
    (λ e f. ap number (bit-put-other c d (word_at a i m) x (λ k. h (λ n. one_bit (e n) (f n) (k n)))) ∙ sym (λ n. number (bit (word_at (e n) (f n) m) d)))

-- A set of levels stays one.
pub set-low : (s : Slot) (b : Array) (j x : ℕ) (m : Parts) → Right s → flagged b j ≡ true → word_at b j m < 16 → word_at b j (with_slot s x m) < 16
set-low (whole a i) b j x m r q h = word-cases (λ y. y < 16) a b i j x m h (λ e f. clash q r e f)
set-low (one_bit a i c) b j x m r q h =
    word-cases (λ y. y < 16) a b i j (put c 1 (word_at a i m) x) m h
    (λ e f. let low : word_at a i m < 16 = (let same : word_at b j m ≡ word_at a i m = (λ n. word_at (e n) (f n) m) in rw same at h) in
    put-lt c 1 4 (word_at a i m) x low (omega (arith, r.1)))

-- The slot itself has the quantity; a bit has one that is 0 or 1.
slot_same : {m : Parts} → Sizes m → (s : Slot) (x : ℕ) → Within s → ((a : Array) (i b : ℕ) → s ≡ one_bit a i b → x ≤ 1) → in_slot s (with_slot s x m) ≡ x
slot_same sizes (whole a i) x h f = word_same sizes a i x h
slot_same {m} sizes (one_bit a i b) x h f =
    let low : x ≤ 1 = f a i b refl in
    let first : x / 2 ^ 0 % 2 ^ 1 ≡ x = omega arith in
    rw (word_same sizes a i (put b 1 (word_at a i m) x) h, bit-put-here b (word_at a i m) x, first) (flag-back x low)

-- The place of a slot.
abbrev row_place : Processor → Level → ℕ → Place
row_place v l k =
    cond (ltb k 13) (Register v l k)
    (cond (eqb k 13) (Tpr v l)
    (cond (ltb k 18) (Pending v l (k - 14))
    (cond (ltb k 22) (Secure v l (level (k - 18))) (cond (eqb k 22) (Reason v l) (cond (eqb k 23) (From v l) (cond (eqb k 24) (Rax v l)
    (cond (eqb k 25) (Rcx v l) (cond (eqb k intercepts) (Intercepts v l) (cond (eqb k cr0_mask_index) (Cr0Mask v l) (Cr4Mask v l))))))))))

abbrev record_place : Processor → ℕ → Place
record_place v i = cond (eqb i 0) (Active v) (cond (ltb i 22) (Shared v (i + 10)) (row_place v (level ((i - 22) / level_words)) ((i - 22) % level_words)))

abbrev place_of : Slot → Place
place_of (whole of_levels i) = Config (level (i - 2))
place_of (whole of_masks i) = Mask (page (i / 4)) (level (i % 4))
place_of (whole of_words i) = Word (page i)
place_of (whole (of_record v) i) = record_place (processor v) i
place_of (one_bit of_levels i b) = cond (eqb i 0) (PartitionEnabled (level b)) (Mbec (level b))
place_of (one_bit of_masks i b) = Word (page i)
place_of (one_bit of_words i b) = Word (page i)
place_of (one_bit (of_record v) i b) = Enabled (processor v) (level b)

row-place : (v : Processor) (l : Level) (k : ℕ) → k < level_words → record_place v (22 + level_words * l.0 + k) ≡ row_place v l k
row-place v l k h =
    let q : (22 + level_words * l.0 + k - 22) / level_words ≡ l.0 = omega arith in
    let r : (22 + level_words * l.0 + k - 22) % level_words ≡ k = omega arith in
    rw (ne_eqb (22 + level_words * l.0 + k) 0 (λ e. omega arith), le-ltb (22 + level_words * l.0 + k) 22 (omega arith), q, r)

slot-place : (p : Place) → Room p → place_of (slot_of p) ≡ p
unfolding slot_of Room
slot-place (PartitionEnabled t) h = refl
slot-place (Mbec t) h = refl
slot-place (Config t) h = let e : 2 + t.0 - 2 ≡ t.0 = omega arith in rw e
slot-place (Active v) h = refl
slot-place (Shared v r) h =
    let e : r - 10 + 10 ≡ r = omega arith in
    rw (ne_eqb (r - 10) 0 (λ k. omega arith), lt-ltb (r - 10) 22 (omega arith), e)
slot-place (Register v l r) h = row-place v l r (omega arith) ∙ rw (lt-ltb r 13 h.2)
slot-place (Tpr v l) h = row-place v l 13 (omega arith)
slot-place (Pending v l i) h =
    let e : 14 + i - 14 ≡ i = omega arith in
    row-place v l (14 + i) (omega arith)
    ∙ rw (le-ltb (14 + i) 13 (omega arith), ne_eqb (14 + i) 13 (λ k. omega arith), lt-ltb (14 + i) 18 (omega arith), e)
slot-place (Enabled v l) h = refl
slot-place (Secure v l k) h =
    let e : 18 + k.0 - 18 ≡ k.0 = omega arith in
    row-place v l (18 + k.0) (omega arith)
    ∙ rw (
      le-ltb (18 + k.0) 13 (omega arith),
      ne_eqb (18 + k.0) 13 (λ k. omega arith),
      le-ltb (18 + k.0) 18 (omega arith),
      lt-ltb (18 + k.0) 22 (omega arith),
      e,
    )
slot-place (Reason v l) h = row-place v l 22 (omega arith)
slot-place (From v l) h = row-place v l 23 (omega arith)
slot-place (Rax v l) h = row-place v l 24 (omega arith)
slot-place (Rcx v l) h = row-place v l 25 (omega arith)
slot-place (Intercepts v l) h = row-place v l intercepts (omega arith)
slot-place (Cr0Mask v l) h = row-place v l cr0_mask_index (omega arith)
slot-place (Cr4Mask v l) h = row-place v l cr4_mask_index (omega arith)
slot-place (Word p) h = refl
slot-place (Mask p t) h =
    let q : (4 * p.0 + t.0) / 4 ≡ p.0 = omega arith in
    let r : (4 * p.0 + t.0) % 4 ≡ t.0 = omega arith in
    rw (q, r)

-- Each place's slot is right and within its array.
row-right : (v l k : ℕ) → flagged (of_record v) (22 + level_words * l + k) ≡ false
row-right v l k = ne_eqb (22 + level_words * l + k) 1 (λ e. omega arith)

pub place-right : (p : Place) → Room p → Right (slot_of p)
unfolding slot_of Room
place-right (PartitionEnabled t) h = (refl, h.1)
place-right (Mbec t) h = (refl, h.1)
place-right (Config t) h = le-ltb (2 + t.0) 2 (omega arith)
place-right (Active v) h = refl
place-right (Shared v r) h = ne_eqb (r - 10) 1 (λ e. omega arith)
place-right (Register v l r) h = row-right v.0 l.0 r
place-right (Tpr v l) h = row-right v.0 l.0 13
place-right (Pending v l i) h = row-right v.0 l.0 (14 + i)
place-right (Enabled v l) h = (refl, h.2)
place-right (Secure v l k) h = row-right v.0 l.0 (18 + k.0)
place-right (Reason v l) h = row-right v.0 l.0 22
place-right (From v l) h = row-right v.0 l.0 23
place-right (Rax v l) h = row-right v.0 l.0 24
place-right (Rcx v l) h = row-right v.0 l.0 25
place-right (Word p) h = refl
place-right (Mask p t) h = refl
place-right (Intercepts v l) h = row-right v.0 l.0 intercepts
place-right (Cr0Mask v l) h = row-right v.0 l.0 cr0_mask_index
place-right (Cr4Mask v l) h = row-right v.0 l.0 cr4_mask_index

place-within : (p : Place) → Room p → Within (slot_of p)
unfolding slot_of Room
place-within (PartitionEnabled t) h = omega arith
place-within (Mbec t) h = omega arith
place-within (Config t) h = omega arith
place-within (Active v) h = omega arith
place-within (Shared v r) h = omega arith
place-within (Register v l r) h = omega arith
place-within (Tpr v l) h = omega arith
place-within (Pending v l i) h = omega arith
place-within (Enabled v l) h = omega arith
place-within (Secure v l k) h = omega arith
place-within (Reason v l) h = omega arith
place-within (From v l) h = omega arith
place-within (Rax v l) h = omega arith
place-within (Rcx v l) h = omega arith
place-within (Word p) h = omega arith
place-within (Mask p t) h = omega arith
place-within (Intercepts v l) h = omega arith
place-within (Cr0Mask v l) h = omega arith
place-within (Cr4Mask v l) h = omega arith

-- Only a flag is kept as a bit.
never : {A : Type 0} {a b : Array} {i j c : ℕ} → whole a i ≡ one_bit b j c → A
never h = absurd (let z : ◌≡◌ {A = ℕ} 0 1 = cc in omega arith)

place-flag : (p : Place) (a : Array) (i b : ℕ) → slot_of p ≡ one_bit a i b → is_flag p ≡ true
unfolding slot_of is_flag
place-flag (PartitionEnabled t) a i b h = refl
place-flag (Mbec t) a i b h = refl
place-flag (Config t) a i b h = never h
place-flag (Active v) a i b h = never h
place-flag (Shared v r) a i b h = never h
place-flag (Register v l r) a i b h = never h
place-flag (Tpr v l) a i b h = never h
place-flag (Pending v l j) a i b h = never h
place-flag (Enabled v l) a i b h = refl
place-flag (Secure v l k) a i b h = never h
place-flag (Reason v l) a i b h = never h
place-flag (From v l) a i b h = never h
place-flag (Rax v l) a i b h = never h
place-flag (Rcx v l) a i b h = never h
place-flag (Word p) a i b h = never h
place-flag (Mask p t) a i b h = never h
place-flag (Intercepts v l) a i b h = never h
place-flag (Cr0Mask v l) a i b h = never h
place-flag (Cr4Mask v l) a i b h = never h

-- The quantity at a place is the one stored there, and every other place keeps its own.
module _ {m : Parts} (sizes : Sizes m) (p : Place) (x : ℕ) (room : Room p) where
  pub kept_here : (is_flag p ≡ true → x ≤ 1) → kept_at (stored p x m) p ≡ x
  kept_here f = slot_same sizes (slot_of p) x (place-within p room) (λ a i b e. f (place-flag p a i b e))

  pub kept-other : (q : Place) → Room q → (q ≡ p → ⊥) → kept_at (stored p x m) q ≡ kept_at m q
  kept-other q other apart =
      slot-other (slot_of p) (slot_of q) x m (place-right p room) (place-right q other)
      (λ e. apart (sym (slot-place q other) ∙ ap place_of e ∙ slot-place p room))
