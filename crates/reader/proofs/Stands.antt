-- What the parts stand for while records are read: the quantities that were stored, and 0 at every other place. Assumes nothing.
use mathlib.Core.Bool.{Bool, true, false, cond}
use mathlib.Core.List.{List, [], ◌∷◌}
use mathlib.Core.Path.{◌≡◌, refl, sym, ap, ◌∙◌}
use Prim.Native.Nat.{ℕ, zero, suc, ◌+◌, ◌-◌, ◌*◌, ◌/◌, ◌%◌, ◌≤◌, ◌<◌}
use native.Mathlib.Omega.{arith}
use lib.Dec.{eqb}
use lib.ListN.{drop, get_or, length, length-drop, length-take, take}
use lib.Seq.{get_or-drop, get_or-take}
use borrow.Author.Tests.{eq-eqb, eqb-false, eqb-true, ne_eqb}
use Rattle.word.specs.Field.{bit}
use Rattle.model.specs.declared.machine.Setup.{Setup}
use Rattle.model.specs.declared.quantity.Level.{Level}
use Rattle.model.specs.State.{level, level_set}
use Rattle.model.proofs.LevelSets.{set-of-bits}
use Rattle.model.proofs.Sets.{bits-cong}
use Rattle.partition.specs.PartitionView.{partition_of}
use Rattle.processor.specs.Record.{context_in, context_of, cr0_mask_index, cr4_mask_index, intercepts, level_words, part, record_words, row_of, vp_of}
use Rattle.script.specs.EventForms.{page, processor}
use Rattle.state.specs.Lent.{lent, machine_of}
use Rattle.records.specs.declared.place.Place.{Place}
use Rattle.records.specs.declared.place.Place.TheVariants.{PartitionEnabled, Mbec, Config, Active, Shared, Register, Tpr, Pending, Enabled, Secure, Reason, From, Rax, Rcx, Word, Mask, Intercepts, Cr0Mask, Cr4Mask}
use Rattle.records.specs.Places.{end_rank, has, known, rank}
use Rattle.records.specs.Reading.{is_flag, only}
use Rattle.records.specs.Values.{context_from, number, partition_from, set_from, state_from, table, vp_from}
use Rattle.records.proofs.Limits.{limits}
use Rattle.records.proofs.Sequence.{In, Run, Small, here, member, places-run, run-above, there}
use Rattle.records.proofs.Tables.{list-is}
use Rattle.records.proofs.PlainStates.{flag, only-has, only-not}
use Rattle.reader.specs.Slots.{Array, Parts, Room, Slot, in_slot, kept_at, of_levels, of_record, one_bit, slot_of, stored, whole, word_at}
use Rattle.reader.proofs.StoredPlaces.{Sizes, flagged, kept_here, kept-other, place-right, set-low, sizes-slot, slot-other}

-- The arrays have room for each place that a state has.
pub room_of : (c : Setup) (p : Place) → Small c → has c p ≡ true → Room p
unfolding Room
room_of c (PartitionEnabled t) few h = limits c (PartitionEnabled t) h
room_of c (Mbec t) few h = limits c (Mbec t) h
room_of c (Config t) few h = (limits c (Config t) h).1
room_of c (Active v) few h = (limits c (Active v) h).0
room_of c (Shared v r) few h = limits c (Shared v r) h
room_of c (Register v l r) few h = limits c (Register v l r) h
room_of c (Tpr v l) few h = limits c (Tpr v l) h
room_of c (Pending v l i) few h = limits c (Pending v l i) h
room_of c (Enabled v l) few h = omega (arith, limits c (Enabled v l) h)
room_of c (Secure v l k) few h = omega (arith, limits c (Secure v l k) h)
room_of c (Reason v l) few h = limits c (Reason v l) h
room_of c (From v l) few h = limits c (From v l) h
room_of c (Rax v l) few h = limits c (Rax v l) h
room_of c (Rcx v l) few h = limits c (Rcx v l) h
room_of c (Word p) few h = omega (arith, limits c (Word p) h, few.pages)
room_of c (Mask p t) few h = omega (arith, limits c (Mask p t) h)
room_of c (Intercepts v l) few h = limits c (Intercepts v l) h
room_of c (Cr0Mask v l) few h = limits c (Cr0Mask v l) h
room_of c (Cr4Mask v l) few h = limits c (Cr4Mask v l) h

-- Two places of a state with one rank are the same.
module _ (c : Setup) where
  run-one : {p q : Place} {ps : List Place} → In p ps → In q ps → (lo hi : ℕ) → Run c lo ps hi → rank p ≡ rank q → p ≡ q
  run-one here here lo hi r e = refl
  run-one (here {p} {ps}) (there m) lo hi (a, h, r) e = absurd (omega (arith, run-above c m (suc (rank p)) hi r))
  run-one (there m) (here {p} {ps}) lo hi (a, h, r) e = absurd (omega (arith, run-above c m (suc (rank p)) hi r))
  run-one (there {q = x} m) (there n) lo hi (a, h, r) e = run-one m n (suc (rank x)) hi r e

  rank-one : Small c → (p q : Place) → has c p ≡ true → has c q ≡ true → rank p ≡ rank q → p ≡ q
  rank-one few p q h k e = run-one (member c p h) (member c q k) 0 (end_rank c) (places-run c few) e

-- No place is level 0's bit of a set.
abbrev bit_of : Slot → ℕ
bit_of (whole a i) = 1
bit_of (one_bit a i b) = b

place-bit : (p : Place) → Room p → 0 < bit_of (slot_of p)
unfolding slot_of Room
place-bit (PartitionEnabled t) h = h.0
place-bit (Mbec t) h = h.0
place-bit (Config t) h = omega arith
place-bit (Active v) h = omega arith
place-bit (Shared v r) h = omega arith
place-bit (Register v l r) h = omega arith
place-bit (Tpr v l) h = omega arith
place-bit (Pending v l i) h = omega arith
place-bit (Enabled v l) h = h.1
place-bit (Secure v l k) h = omega arith
place-bit (Reason v l) h = omega arith
place-bit (From v l) h = omega arith
place-bit (Rax v l) h = omega arith
place-bit (Rcx v l) h = omega arith
place-bit (Word p) h = omega arith
place-bit (Mask p t) h = omega arith
place-bit (Intercepts v l) h = omega arith
place-bit (Cr0Mask v l) h = omega arith
place-bit (Cr4Mask v l) h = omega arith

pub record Stands (c : Setup) (m : Parts) (g : Place → ℕ) : Type 0 where
  pub sizes : Sizes m
  pub low-enabled : word_at of_levels 0 m < 16
  pub low-mbec : word_at of_levels 1 m < 16
  pub low-on : (v : ℕ) → v < 4 → word_at (of_record v) 1 m < 16
  pub zero-enabled : in_slot (one_bit of_levels 0 0) m ≡ 1
  pub zero-mbec : in_slot (one_bit of_levels 1 0) m ≡ 0
  pub zero-on : (v : ℕ) → v < 4 → in_slot (one_bit (of_record v) 1 0) m ≡ number (known c (processor v))
  pub kept : (q : Place) → Room q → kept_at m q ≡ only c g q

-- The quantities with another at one place.
abbrev pub updated : Place → ℕ → (Place → ℕ) → Place → ℕ
updated p x g q = cond (eqb (rank q) (rank p)) x (g q)

module _ {c : Setup} {m : Parts} {g : Place → ℕ} (s : Stands c m g) (few : Small c) (p : Place) (x : ℕ) (h : has c p ≡ true) (f : is_flag p ≡ true → x ≤ 1) where
  room : Room p
  room = room_of c p few h

  lowest-kept : (a : Array) (i : ℕ) → flagged a i ≡ true → in_slot (one_bit a i 0) (stored p x m) ≡ in_slot (one_bit a i 0) m
  lowest-kept a i k =
      slot-other (slot_of p) (one_bit a i 0) x m (place-right p room) (k, omega arith) (λ e. omega (arith, place-bit p room, ap bit_of e))

  low-kept : (a : Array) (i : ℕ) → flagged a i ≡ true → word_at a i m < 16 → word_at a i (stored p x m) < 16
  low-kept a i k l = set-low (slot_of p) a i x m (place-right p room) k l

  kept-now : (q : Place) → Room q → kept_at (stored p x m) q ≡ only c (updated p x g) q
  kept-now q r = go (has c q) refl (eqb (rank q) (rank p)) refl
    where
      go : (b : Bool) → has c q ≡ b → (t : Bool) → eqb (rank q) (rank p) ≡ t → kept_at (stored p x m) q ≡ only c (updated p x g) q
      go false e t k =
          let apart : (q ≡ p → ⊥) = λ same. (let z : true ≡ false = sym h ∙ ap (has c) (sym same) ∙ e in let y : ◌≡◌ {A = ℕ} 0 1 = cc in omega arith) in
          kept-other s.sizes p x room q r apart ∙ s.kept q r ∙ only-not c g q e ∙ sym (only-not c (updated p x g) q e)
      go true e true k =
          let same : q ≡ p = rank-one c few q p e h (eqb-true (rank q) (rank p) k) in
          rw same (kept_here s.sizes p x room f ∙ sym (only-has c (updated p x g) p h ∙ rw (eq-eqb (rank p) (rank p) refl)))
      go true e false k =
          kept-other s.sizes p x room q r (λ same. eqb-false (rank q) (rank p) k (ap rank same)) ∙ s.kept q r ∙ only-has c g q e
          ∙ sym (only-has c (updated p x g) q e ∙ rw k)

  -- After a store the parts stand for the quantities with the one stored.
  pub stands-store : Stands c (stored p x m) (updated p x g)
  stands-store = record {
    sizes = sizes-slot s.sizes (slot_of p) x;
    low-enabled = low-kept of_levels 0 refl s.low-enabled;
    low-mbec = low-kept of_levels 1 refl s.low-mbec;
    low-on = λ v k. low-kept (of_record v) 1 refl (s.low-on v k);
    zero-enabled = lowest-kept of_levels 0 refl ∙ s.zero-enabled;
    zero-mbec = lowest-kept of_levels 1 refl ∙ s.zero-mbec;
    zero-on = λ v k. lowest-kept (of_record v) 1 refl ∙ s.zero-on v k;
    kept = kept-now;
  }

-- A set of levels by its bits.
set-of : (w : ℕ) (lowest : Bool) (quantity : Level → ℕ) → w < 16 → number (bit w 0) ≡ number lowest
    → ((l : ℕ) → 0 < l → l < 4 → number (bit w l) ≡ quantity (level l)) → level_set w ≡ set_from lowest quantity
set-of w lowest quantity low first each =
    ap level_set (set-of-bits 4 w low ∙ bits-cong 4 (bit w) (λ l. cond (eqb l 0) lowest (eqb (quantity (level l)) 1)) go)
  where
    go : (l : ℕ) → l < 4 → bit w l ≡ cond (eqb l 0) lowest (eqb (quantity (level l)) 1)
    go zero h = sym (flag (bit w 0)) ∙ ap (λ n. eqb n 1) first ∙ flag lowest
    go (suc l) h = rw (ne_eqb (suc l) 0 (λ k. omega arith)) (sym (flag (bit w (suc l))) ∙ ap (λ n. eqb n 1) (each (suc l) (omega arith) h))

row_at : (ws : List ℕ) (l k : ℕ) → k < level_words → get_or (row_of ws l) k 0 ≡ get_or ws (22 + level_words * l + k) 0
unfolding row_of
row_at ws l k h = get_or-take level_words (drop (22 + level_words * l) ws) k 0 h ∙ get_or-drop (22 + level_words * l) ws k 0

row-length : (ws : List ℕ) (l : ℕ) → length ws ≡ record_words → l < 4 → length (row_of ws l) ≡ level_words
unfolding row_of
row-length ws l e h = length-take level_words (drop (22 + level_words * l) ws) ∙ omega (arith, length-drop (22 + level_words * l) ws)

part_at : (from n : ℕ) (ws : List ℕ) (i : ℕ) → i < n → get_or (part from n ws) i 0 ≡ get_or ws (from + i) 0
part_at from n ws i h = get_or-take n (drop from ws) i 0 h ∙ get_or-drop from ws i 0

part_length : (from n : ℕ) (ws : List ℕ) → from + n ≤ length ws → length (part from n ws) ≡ n
part_length from n ws h = length-take n (drop from ws) ∙ omega (arith, length-drop from ws)

module _ {c : Setup} {m : Parts} {g : Place → ℕ} (s : Stands c m g) (few : Small c) where
  abbrev G : Place → ℕ
  G = only c g

  abbrev row : ℕ → List ℕ
  row v = get_or m.vps v []

  context-is : (v l : ℕ) → v < 4 → l < 4 → context_in (row v) l ≡ context_from G (processor v) (level l)
  unfolding context_in context_of slot_of Room
  context-is v l h k =
      let size : length (row_of (row v) l) ≡ level_words = row-length (row v) l (s.sizes.row v h) k in
      λ i. record {
        registers =
            list-is (take 13 (row_of (row v) l)) 13 0 (λ r. G (Register (processor v) (level l) r)) (length-take 13 (row_of (row v) l) ∙ omega arith)
            (λ r b. get_or-take 13 (row_of (row v) l) r 0 b ∙ row_at (row v) l r (omega arith) ∙ s.kept (Register (processor v) (level l) r) (h, k, b)) i;
        tpr = (row_at (row v) l 13 (omega arith) ∙ s.kept (Tpr (processor v) (level l)) (h, k)) i;
        pending =
            list-is (part 14 4 (row_of (row v) l)) 4 0 (λ j. G (Pending (processor v) (level l) j)) (part_length 14 4 (row_of (row v) l) (omega arith))
            (λ j b. part_at 14 4 (row_of (row v) l) j b ∙ row_at (row v) l (14 + j) (omega arith) ∙ s.kept (Pending (processor v) (level l) j) (h, k, b)) i;
        secure =
            list-is (part 18 4 (row_of (row v) l)) 4 0 (λ j. G (Secure (processor v) (level l) (level j))) (part_length 18 4 (row_of (row v) l) (omega arith))
            (λ j b. part_at 18 4 (row_of (row v) l) j b ∙ row_at (row v) l (18 + j) (omega arith) ∙ s.kept (Secure (processor v) (level l) (level j)) (h, k, b)) i;
        control = record {
          reason = (row_at (row v) l 22 (omega arith) ∙ s.kept (Reason (processor v) (level l)) (h, k)) i;
          from = level ((row_at (row v) l 23 (omega arith) ∙ s.kept (From (processor v) (level l)) (h, k)) i);
          rax = (row_at (row v) l 24 (omega arith) ∙ s.kept (Rax (processor v) (level l)) (h, k)) i;
          rcx = (row_at (row v) l 25 (omega arith) ∙ s.kept (Rcx (processor v) (level l)) (h, k)) i;
        };
        watch = record {
          intercepts = (row_at (row v) l intercepts (omega arith) ∙ s.kept (Intercepts (processor v) (level l)) (h, k)) i;
          cr0_mask = (row_at (row v) l cr0_mask_index (omega arith) ∙ s.kept (Cr0Mask (processor v) (level l)) (h, k)) i;
          cr4_mask = (row_at (row v) l cr4_mask_index (omega arith) ∙ s.kept (Cr4Mask (processor v) (level l)) (h, k)) i;
        };
      }

  shared-is : (v : ℕ) → v < 4 → part 2 20 (row v) ≡ table 20 (λ i. G (Shared (processor v) (12 + i)))
  unfolding slot_of Room
  shared-is v h =
      list-is (part 2 20 (row v)) 20 0 (λ i. G (Shared (processor v) (12 + i))) (part_length 2 20 (row v) (omega (arith, s.sizes.row v h)))
      (λ i b.
      let e : 2 + i ≡ 12 + i - 10 = omega arith in
      part_at 2 20 (row v) i b ∙ ap (λ (j : ℕ). get_or (row v) j 0) e ∙ s.kept (Shared (processor v) (12 + i)) (h, omega arith, omega arith))

  enabled-is : (v : ℕ) → v < 4 → level_set (get_or (row v) 1 0) ≡ set_from (known c (processor v)) (λ l. G (Enabled (processor v) l))
  unfolding slot_of Room
  enabled-is v h =
      set-of (get_or (row v) 1 0) (known c (processor v)) (λ l. G (Enabled (processor v) l)) (s.low-on v h) (s.zero-on v h)
      (λ l a b. s.kept (Enabled (processor v) (level l)) (h, a, b))

  active-is : (v : ℕ) → v < 4 → get_or (row v) 0 0 ≡ G (Active (processor v))
  unfolding slot_of Room
  active-is v h = s.kept (Active (processor v)) h

  vp-is : (v : ℕ) → v < 4 → vp_of (row v) ≡ vp_from c G (processor v)
  unfolding vp_of table
  vp-is v h = λ i. record {
    active = level (active-is v h i);
    enabled = enabled-is v h i;
    shared = shared-is v h i;
    contexts = context-is v 0 h (omega arith) i ∷ context-is v 1 h (omega arith) i ∷ context-is v 2 h (omega arith) i ∷ context-is v 3 h (omega arith) i ∷ [];
  }

  partition-is : partition_of m.levels m.masks ≡ partition_from G
  unfolding partition_of table slot_of Room
  partition-is = λ i. record {
    enabled =
        set-of (get_or m.levels 0 0) true (λ l. G (PartitionEnabled l)) s.low-enabled s.zero-enabled (λ l a b. s.kept (PartitionEnabled (level l)) (a, b)) i;
    mbec = set-of (get_or m.levels 1 0) false (λ l. G (Mbec l)) s.low-mbec s.zero-mbec (λ l a b. s.kept (Mbec (level l)) (a, b)) i;
    configs =
        s.kept (Config (level 0)) (omega arith) i ∷ s.kept (Config (level 1)) (omega arith) i ∷ s.kept (Config (level 2)) (omega arith) i
        ∷ s.kept (Config (level 3)) (omega arith) i ∷ [];
    masks = masks-are i;
  }
    where
      masks-are : m.masks ≡ table 256 (λ i. G (Mask (page (i / 4)) (level (i % 4))))
      masks-are = list-is m.masks 256 0 (λ i. G (Mask (page (i / 4)) (level (i % 4)))) s.sizes.masks
          (λ i b.
          let e : i ≡ 4 * (i / 4) + i % 4 = omega arith in
          ap (λ (j : ℕ). get_or m.masks j 0) e ∙ s.kept (Mask (page (i / 4)) (level (i % 4))) (omega arith))

  words_are : take c.pages m.words ≡ table c.pages (λ p. G (Word (page p)))
  unfolding slot_of Room
  words_are =
      list-is (take c.pages m.words) c.pages 0 (λ p. G (Word (page p))) (length-take c.pages m.words ∙ omega (arith, s.sizes.words, few.pages))
      (λ p b. get_or-take c.pages m.words p 0 b ∙ s.kept (Word (page p)) (omega (arith, few.pages)))

  -- The parts are the state of the quantities.
  pub stands-state : lent c m.levels m.masks m.vps (take c.pages m.words) ≡ state_from c (only c g)
  unfolding machine_of state_from table
  stands-state = λ i. record {
    machine = record {
      processors = c.processors;
      pages = c.pages;
      host_mask = c.host_mask;
      shape = c.shape;
      partition = partition-is i;
      vps = vp-is 0 (omega arith) i ∷ vp-is 1 (omega arith) i ∷ vp-is 2 (omega arith) i ∷ vp-is 3 (omega arith) i ∷ [];
    };
    words = words_are i;
  }
