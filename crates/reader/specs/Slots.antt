-- Where code keeps the quantity at each place, in the parts of a machine that it lends: as a word, or as a bit of a word that holds a
-- set of levels. The layouts are those of crates `partition` and `processor`. Assumes nothing.
use Rattle.std.specs.Prelude.{List, [], ℕ, ◌+◌, ◌-◌, ◌*◌, ◌<◌, ◌≤◌, get_or, set}
use Rattle.word.specs.Field.{bit, put}
use Rattle.model.specs.declared.quantity.Level.{Level}
use Rattle.model.specs.declared.quantity.Processor.{Processor}
use Rattle.processor.specs.Record.{cr0_mask_index, cr4_mask_index, from, intercepts, level_words, pending, reason, saved_rax, saved_rcx, secure, tpr}
use Rattle.records.specs.declared.place.Place.{Place}
use Rattle.records.specs.declared.place.Place.TheVariants.{PartitionEnabled, Mbec, Config, Active, Shared, Register, Tpr, Pending, Enabled, Secure, Reason, From, Rax, Rcx, Word, Mask, Intercepts, Cr0Mask, Cr4Mask}
use Rattle.records.specs.Values.{number}
use Rattle.state.specs.declared.parts.Parts.{Parts as Held}

-- The parts that code lends: the words of the levels, the masks, the words of four processors, and the words of the pages.
pub record Parts : Type 0 where
  pub levels : List ℕ
  pub masks : List ℕ
  pub vps : List (List ℕ)
  pub words : List ℕ

abbrev pub parts_of : List ℕ → List ℕ → List (List ℕ) → List ℕ → Parts
parts_of levels masks vps words = record { levels = levels; masks = masks; vps = vps; words = words }

-- The parts of a machine whose levels, masks and processors are held as one.
abbrev pub parts_with : Held → List ℕ → Parts
parts_with held words = parts_of held.levels held.masks held.vps words

-- One array of words among the parts: of the levels, the masks, the page words, or the record of a processor.
pub data Array : Type 0 where
  of_levels : Array
  of_masks : Array
  of_words : Array
  of_record : ℕ → Array

-- A word of an array, and the parts with another word in its place.
abbrev pub word_at : Array → ℕ → Parts → ℕ
word_at of_levels i m = get_or m.levels i 0
word_at of_masks i m = get_or m.masks i 0
word_at of_words i m = get_or m.words i 0
word_at (of_record v) i m = get_or (get_or m.vps v []) i 0

abbrev pub with_word : Array → ℕ → ℕ → Parts → Parts
with_word of_levels i x m = parts_of (set m.levels i x) m.masks m.vps m.words
with_word of_masks i x m = parts_of m.levels (set m.masks i x) m.vps m.words
with_word of_words i x m = parts_of m.levels m.masks m.vps (set m.words i x)
with_word (of_record v) i x m = parts_of m.levels m.masks (set m.vps v (set (get_or m.vps v []) i x)) m.words

-- A slot is a word of an array, or one bit of such a word.
pub data Slot : Type 0 where
  whole : Array → ℕ → Slot
  one_bit : Array → ℕ → ℕ → Slot

-- The word at an offset in the row of a level.
abbrev pub in_row : Processor → Level → ℕ → Slot
in_row v l k = whole (of_record v.0) (22 + level_words * l.0 + k)

unfoldable pub slot_of : Place → Slot
slot_of (PartitionEnabled t) = one_bit of_levels 0 t.0
slot_of (Mbec t) = one_bit of_levels 1 t.0
slot_of (Config t) = whole of_levels (2 + t.0)
slot_of (Active v) = whole (of_record v.0) 0
slot_of (Shared v r) = whole (of_record v.0) (r - 10)
slot_of (Register v l r) = in_row v l r
slot_of (Tpr v l) = in_row v l tpr
slot_of (Pending v l i) = in_row v l (pending + i)
slot_of (Enabled v l) = one_bit (of_record v.0) 1 l.0
slot_of (Secure v l k) = in_row v l (secure + k.0)
slot_of (Reason v l) = in_row v l reason
slot_of (From v l) = in_row v l from
slot_of (Rax v l) = in_row v l saved_rax
slot_of (Rcx v l) = in_row v l saved_rcx
slot_of (Word p) = whole of_words p.0
slot_of (Mask p t) = whole of_masks (4 * p.0 + t.0)
slot_of (Intercepts v l) = in_row v l intercepts
slot_of (Cr0Mask v l) = in_row v l cr0_mask_index
slot_of (Cr4Mask v l) = in_row v l cr4_mask_index

-- The quantity in a slot, and the parts with another quantity in it.
abbrev pub in_slot : Slot → Parts → ℕ
in_slot (whole a i) m = word_at a i m
in_slot (one_bit a i b) m = number (bit (word_at a i m) b)

abbrev pub with_slot : Slot → ℕ → Parts → Parts
with_slot (whole a i) x m = with_word a i x m
with_slot (one_bit a i b) x m = with_word a i (put b 1 (word_at a i m) x) m

-- The quantity at a place, and the parts with another quantity there.
abbrev pub kept_at : Parts → Place → ℕ
kept_at m p = in_slot (slot_of p) m

abbrev pub stored : Place → ℕ → Parts → Parts
stored p x m = with_slot (slot_of p) x m

-- The arrays have room for a place: four processors, four levels, 64 pages, and the registers, words and lower levels of each. Of level
-- 0 no flag is stored.
unfoldable pub Room : Place → Type 0
Room (PartitionEnabled t) = (0 < t.0) × (t.0 < 4)
Room (Mbec t) = (0 < t.0) × (t.0 < 4)
Room (Config t) = t.0 < 4
Room (Active v) = v.0 < 4
Room (Shared v r) = (v.0 < 4) × (12 ≤ r) × (r < 32)
Room (Register v l r) = (v.0 < 4) × (l.0 < 4) × (r < 13)
Room (Tpr v l) = (v.0 < 4) × (l.0 < 4)
Room (Pending v l i) = (v.0 < 4) × (l.0 < 4) × (i < 4)
Room (Enabled v l) = (v.0 < 4) × (0 < l.0) × (l.0 < 4)
Room (Secure v l k) = (v.0 < 4) × (l.0 < 4) × (k.0 < 4)
Room (Reason v l) = (v.0 < 4) × (l.0 < 4)
Room (From v l) = (v.0 < 4) × (l.0 < 4)
Room (Rax v l) = (v.0 < 4) × (l.0 < 4)
Room (Rcx v l) = (v.0 < 4) × (l.0 < 4)
Room (Word p) = p.0 < 64
Room (Mask p t) = (p.0 < 64) × (t.0 < 4)
Room (Intercepts v l) = (v.0 < 4) × (l.0 < 4)
Room (Cr0Mask v l) = (v.0 < 4) × (l.0 < 4)
Room (Cr4Mask v l) = (v.0 < 4) × (l.0 < 4)
