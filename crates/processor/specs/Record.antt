-- A virtual processor's record in 138 words, as code lends and changes it (01, "The bench model"). Word 0 is the active level,
-- word 1 the set of the levels enabled on the processor, words 2 to 21 are the shared registers 12 to 31, and a row of 29 words
-- for each level follows: registers 0 to 12, the TPR class, four words of pending vectors, the configuration of four lower
-- levels, the control record (reason, level left, RAX, RCX), and what it asks to be told of registers (its intercept control word, its
-- masks for CR0 and CR4). src/record.rt has the same constants. Assumes nothing.
use Rattle.std.specs.Prelude.{Bool, cond, ◌&&◌, List, [], ◌∷◌, ◌++◌, ◌≡◌, ℕ, ◌+◌, ◌-◌, ◌*◌, ◌<◌, leb, eqb, get_or, replicate, take, drop, set}
use Rattle.word.specs.Field.{put}
use Rattle.model.specs.declared.machine.Context.{Context}
use Rattle.model.specs.declared.machine.Control.{Control}
use Rattle.model.specs.declared.machine.Shape.{Shape}
use Rattle.model.specs.declared.machine.VirtualProcessor.{VirtualProcessor}
use Rattle.model.specs.declared.machine.Watch.{Watch}
use Rattle.model.specs.Arrays.{number_at, stored}
use Rattle.model.specs.State.{level, level_set, is_level, context, lock_bit}
use Rattle.model.specs.Updates.{with_control, put_context, set_secure}

-- The words of a record.
abbrev pub record_words : ℕ
record_words = 138

-- The active level, and the set of the enabled levels.
abbrev pub active : ℕ
active = 0

abbrev pub enabled : ℕ
enabled = 1

-- The first shared register, and how many there are.
abbrev pub shared : ℕ
shared = 2

abbrev pub shared_registers : ℕ
shared_registers = 20

-- The first word of level 0's row, and the words of a row.
abbrev pub levels : ℕ
levels = 22

abbrev pub level_words : ℕ
level_words = 29

-- Offsets in a row, after the private registers.
abbrev pub private_registers : ℕ
private_registers = 13

abbrev pub tpr : ℕ
tpr = 13

abbrev pub pending : ℕ
pending = 14

abbrev pub secure : ℕ
secure = 18

abbrev pub reason : ℕ
reason = 22

abbrev pub from : ℕ
from = 23

abbrev pub saved_rax : ℕ
saved_rax = 24

abbrev pub saved_rcx : ℕ
saved_rcx = 25

abbrev pub intercepts : ℕ
intercepts = 26

abbrev pub cr0_mask_index : ℕ
cr0_mask_index = 27

abbrev pub cr4_mask_index : ℕ
cr4_mask_index = 28

-- n words from a place on.
abbrev pub part : ℕ → ℕ → List ℕ → List ℕ
part place n ws = take n (drop place ws)

-- The row of level l, and what it stands for.
unfoldable pub row_of : List ℕ → ℕ → List ℕ
row_of ws l = part (levels + level_words * l) level_words ws

unfoldable pub context_of : List ℕ → Context
context_of row = record {
  registers = take private_registers row;
  tpr = get_or row tpr 0;
  pending = part pending 4 row;
  secure = part secure 4 row;
  control = record { reason = get_or row reason 0; from = level (get_or row from 0); rax = get_or row saved_rax 0; rcx = get_or row saved_rcx 0 };
  watch = record { intercepts = get_or row intercepts 0; cr0_mask = get_or row cr0_mask_index 0; cr4_mask = get_or row cr4_mask_index 0 };
}

unfoldable pub context_in : List ℕ → ℕ → Context
context_in ws l = context_of (row_of ws l)

-- The record that the words stand for. No two arrays of 138 words stand for one record (`record-one` of
-- proofs/RecordOne.antt).
unfoldable pub vp_of : List ℕ → VirtualProcessor
vp_of ws = record {
  active = level (get_or ws active 0);
  enabled = level_set (get_or ws enabled 0);
  shared = part shared shared_registers ws;
  contexts = context_in ws 0 ∷ context_in ws 1 ∷ context_in ws 2 ∷ context_in ws 3 ∷ [];
}

-- Four records, in the words of each.
abbrev pub vps_of : List (List ℕ) → List VirtualProcessor
vps_of rows = vp_of (get_or rows 0 []) ∷ vp_of (get_or rows 1 []) ∷ vp_of (get_or rows 2 []) ∷ vp_of (get_or rows 3 []) ∷ []

-- The word at offset k of level l's row; 0 beyond M.
abbrev pub word_in : Shape → List ℕ → ℕ → ℕ → ℕ
word_in z ws l k = cond (is_level z l) (get_or ws (levels + level_words * l + k) 0) 0

-- The four words from offset k on.
abbrev pub four_words : Shape → List ℕ → ℕ → ℕ → List ℕ
four_words z ws l k = word_in z ws l k ∷ word_in z ws l (k + 1) ∷ word_in z ws l (k + 2) ∷ word_in z ws l (k + 3) ∷ []

-- A context after the word at offset k of its row was set to x.
abbrev pub updated : ℕ → ℕ → Context → Context
updated k x c = record {
  registers = stored private_registers c.registers k x;
  tpr = cond (eqb k tpr) x c.tpr;
  pending = cond (leb pending k) (stored 4 c.pending (k - pending) x) c.pending;
  secure = cond (leb secure k) (stored 4 c.secure (k - secure) x) c.secure;
  control = record {
    reason = cond (eqb k reason) x c.control.reason;
    from = level (cond (eqb k from) x c.control.from.0);
    rax = cond (eqb k saved_rax) x c.control.rax;
    rcx = cond (eqb k saved_rcx) x c.control.rcx;
  };
  watch = record {
    intercepts = cond (eqb k intercepts) x c.watch.intercepts;
    cr0_mask = cond (eqb k cr0_mask_index) x c.watch.cr0_mask;
    cr4_mask = cond (eqb k cr4_mask_index) x c.watch.cr4_mask;
  };
}

-- A context changed and put back, and the same where the change is the word at an offset; beyond M nothing changes.
abbrev pub altered : Shape → VirtualProcessor → ℕ → (Context → Context) → VirtualProcessor
altered z p l f = put_context z p l (f (context z p l))

abbrev pub word_put : Shape → VirtualProcessor → ℕ → ℕ → ℕ → VirtualProcessor
word_put z p l k x = altered z p l (updated k x)

-- Level l is added to the set of the enabled levels.
abbrev pub level_enabled : List ℕ → ℕ → List ℕ
level_enabled ws l = set ws enabled (put l 1 (get_or ws enabled 0) 1)

-- Level t's lock in the configuration of level l is cleared.
abbrev pub lock_cleared : Shape → VirtualProcessor → ℕ → ℕ → VirtualProcessor
lock_cleared z p t l = set_secure z p t l (put lock_bit 1 (number_at 4 (context z p t).secure l) 0)

-- Level l has the control record k.
abbrev pub control_set : Shape → VirtualProcessor → ℕ → Control → VirtualProcessor
control_set z p l k = put_context z p l (with_control (context z p l) k)

-- The row of a level that starts, with the configuration words that it holds of four levels and what it asks to be told of registers.
abbrev pub started_row : ℕ → ℕ → ℕ → List ℕ → Watch → List ℕ
started_row ip sp cr held w =
    ip ∷ sp ∷ 0 ∷ cr ∷ replicate 14 0 ++ (held ++ (replicate 4 0 ++ w.intercepts ∷ w.cr0_mask ∷ w.cr4_mask ∷ []))

-- The intercept control word that a level's row holds; and no bit is set in those of levels 1 to 3, whatever the maximum level is.
abbrev pub intercepts_of : List ℕ → ℕ → ℕ
intercepts_of ws l = get_or ws (levels + level_words * l + intercepts) 0

abbrev pub none_watches : List ℕ → Bool
none_watches ws = eqb (intercepts_of ws 1) 0 && eqb (intercepts_of ws 2) 0 && eqb (intercepts_of ws 3) 0

-- The words ws' differ from ws in level l's row alone.
pub record Within (l : ℕ) (ws ws' : List ℕ) : Type 0 where
  pub active-same : get_or ws' active 0 ≡ get_or ws active 0
  pub enabled-same : get_or ws' enabled 0 ≡ get_or ws enabled 0
  pub shared_same : part shared shared_registers ws' ≡ part shared shared_registers ws
  pub rows_same : (j : ℕ) → j < 4 → (j ≡ l → ⊥) → row_of ws' j ≡ row_of ws j
