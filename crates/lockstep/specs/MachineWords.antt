-- The machine in words that a caller owns (01, "The bench model"): six words of the setup, and from there on the parts that `lent` of
-- crate `state` makes a state of. src/machine_words.rt has the same constants. Assumes nothing.
use Rattle.std.specs.Prelude.{Bool, cond, ◌&&◌, List, [], ◌∷◌, ◌++◌, ◌≡◌, ℕ, ◌+◌, ◌*◌, min, leb, eqb, get_or, length}
use Rattle.model.specs.State.{State, level}
use Rattle.model.specs.declared.machine.Context.{Context}
use Rattle.model.specs.declared.machine.Machine.{Machine}
use Rattle.model.specs.declared.machine.Partition.{Partition}
use Rattle.model.specs.declared.machine.Setup.{Setup}
use Rattle.model.specs.declared.machine.VirtualProcessor.{VirtualProcessor}
use Rattle.processor.specs.Record.{part, record_words}
use Rattle.state.specs.Lent.{lent}

-- The words of the setup: V, M, P, Dr6Shared, the host's mask, whether SMEP is available.
abbrev pub processors_at : ℕ
processors_at = 0

abbrev pub maximum_at : ℕ
maximum_at = 1

abbrev pub pages_at : ℕ
pages_at = 2

abbrev pub dr6_shared_at : ℕ
dr6_shared_at = 3

abbrev pub host_mask_at : ℕ
host_mask_at = 4

abbrev pub smep_at : ℕ
smep_at = 5

-- Where the parts begin that a step may change: six words of the levels, 256 masks, the first of four records, each of the others, and the words of 64
-- pages.
abbrev pub levels_at : ℕ
levels_at = 6

abbrev pub masks_at : ℕ
masks_at = 12

abbrev pub records_at : ℕ
records_at = 268

abbrev pub second_at : ℕ
second_at = 406

abbrev pub third_at : ℕ
third_at = 544

abbrev pub fourth_at : ℕ
fourth_at = 682

abbrev pub words_at : ℕ
words_at = 820

-- How many words a machine takes.
abbrev pub machine_words : ℕ
machine_words = 884

-- The words of the levels, and the masks.
abbrev pub level_count : ℕ
level_count = 6

abbrev pub mask_count : ℕ
mask_count = 256

-- The most pages.
abbrev pub most_pages : ℕ
most_pages = 64

-- Both flags, Dr6Shared and SMEP, are 0 or 1.
abbrev pub flags_known : List ℕ → Bool
flags_known ws = leb (get_or ws dr6_shared_at 0) 1 && leb (get_or ws smep_at 0) 1

-- Words with any other flag stand for a machine without processors. It is not well formed, so every event gets answer 1.
abbrev pub processors_in : List ℕ → ℕ
processors_in ws = cond (flags_known ws) (get_or ws processors_at 0) 0

-- The setup.
abbrev pub setup_in : List ℕ → Setup
setup_in ws = record {
  processors = processors_in ws;
  pages = get_or ws pages_at 0;
  host_mask = get_or ws host_mask_at 0;
  shape = record {
    max_level = level (get_or ws maximum_at 0);
    dr6_shared = eqb (get_or ws dr6_shared_at 0) 1;
    smep = eqb (get_or ws smep_at 0) 1;
  };
}

-- The record of processor v, and all four.
abbrev pub record_in : List ℕ → ℕ → List ℕ
record_in ws v = part (records_at + record_words * v) record_words ws

abbrev pub records_in : List ℕ → List (List ℕ)
records_in ws = record_in ws 0 ∷ record_in ws 1 ∷ record_in ws 2 ∷ record_in ws 3 ∷ []

-- The words of four records, one after the other.
abbrev pub flat : List (List ℕ) → List ℕ
flat vps = get_or vps 0 [] ++ get_or vps 1 [] ++ get_or vps 2 [] ++ get_or vps 3 []

-- How many words each part has.
pub record PartSizes (levels masks : List ℕ) (vps : List (List ℕ)) : Type 0 where
  pub levels-length : length levels ≡ level_count
  pub masks-length : length masks ≡ mask_count
  pub first-length : length (get_or vps 0 []) ≡ record_words
  pub second-length : length (get_or vps 1 []) ≡ record_words
  pub third-length : length (get_or vps 2 []) ≡ record_words
  pub fourth-length : length (get_or vps 3 []) ≡ record_words

-- The state that the words stand for. There are words for 64 pages; those of the first P are lent.
abbrev pub lent_words : List ℕ → ℕ
lent_words ws = min (get_or ws pages_at 0) most_pages

unfoldable pub state_in : List ℕ → State
state_in ws = lent (setup_in ws) (part levels_at level_count ws) (part masks_at mask_count ws) (records_in ws) (part words_at (lent_words ws) ws)

-- The words of what a processor holds of one level, and of a processor's record (specs/Record.antt of crate `processor`).
unfoldable pub context_words : Context → List ℕ
context_words c =
    c.registers
    ++ c.tpr ∷ c.pending
    ++ c.secure
    ++ c.control.reason ∷ c.control.from.0 ∷ c.control.rax ∷ c.control.rcx
    ∷ c.watch.intercepts ∷ c.watch.cr0_mask ∷ c.watch.cr4_mask ∷ []

unfoldable pub rows_of : List Context → List ℕ
rows_of [] = []
rows_of (c ∷ cs) = context_words c ++ rows_of cs

unfoldable pub record_of : VirtualProcessor → List ℕ
record_of p = p.active.0 ∷ p.enabled.0 ∷ p.shared ++ rows_of p.contexts

unfoldable pub records_of : List VirtualProcessor → List ℕ
records_of [] = []
records_of (p ∷ ps) = record_of p ++ records_of ps

-- The words of what the partition holds of its levels.
abbrev pub levels_of : Partition → List ℕ
levels_of x = x.enabled.0 ∷ x.mbec.0 ∷ x.configs

-- The words of the parts that a step may change, and of the setup.
unfoldable pub parts_of : State → List ℕ
parts_of s =
    levels_of s.machine.partition ++ s.machine.partition.masks ++ records_of s.machine.vps ++ s.words

abbrev pub flag_word : Bool → ℕ
flag_word b = cond b 1 0

abbrev pub setup_words : Machine → List ℕ
setup_words m =
    m.processors
    ∷ m.shape.max_level.0
    ∷ m.pages
    ∷ flag_word m.shape.dr6_shared
    ∷ m.host_mask
    ∷ flag_word m.shape.smep
    ∷ []

-- All words of a state.
unfoldable pub words_of : State → List ℕ
words_of s = setup_words s.machine ++ parts_of s
