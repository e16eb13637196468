-- The state, and what can be read of it (01, "The bench model"). A reading beyond the processors V, the maximum level M or
-- the pages P gives the empty record or 0: what lies there is no part of a state. Nor is level 0's control record, its
-- intercept control word with its masks, its configuration word or its page masks, or DR6 in the place that Dr6Shared leaves unused. Assumes nothing.
use Rattle.std.specs.Prelude.{Bool, cond, ◌&&◌, List, [], ◌∷◌, ℕ, ◌+◌, ◌*◌, ◌/◌, ◌%◌, leb, ltb, eqb, get_or, replicate, Option, Some, None}
use Rattle.word.specs.Field.{bit}
pub use Rattle.model.specs.declared.machine.Context.{Context}
pub use Rattle.model.specs.declared.machine.Control.{Control}
pub use Rattle.model.specs.declared.machine.Machine.{Machine}
pub use Rattle.model.specs.declared.machine.Partition.{Partition}
pub use Rattle.model.specs.declared.machine.Shape.{Shape}
pub use Rattle.model.specs.declared.machine.VirtualProcessor.{VirtualProcessor}
pub use Rattle.model.specs.declared.machine.Watch.{Watch}
pub use Rattle.model.specs.declared.quantity.Level.{Level}
pub use Rattle.model.specs.declared.set.LevelSet.{LevelSet}
pub use Rattle.model.specs.declared.quantity.Mode.{Mode}
pub use Rattle.model.specs.declared.quantity.Access.{Access}
pub use Rattle.model.specs.declared.machine.FirstLine.{FirstLine}
use Rattle.model.specs.Arrays.{number_at}
use Rattle.model.specs.Bounded.{any, all_of}

-- The machine, and the words of its pages, which the caller lends.
pub record State : Type 0 where
  pub machine : Machine
  pub words : List ℕ

-- A number as a level, and as a set of levels: bit l tells whether level l is in it.
abbrev pub level : ℕ → Level
level l = record { 0 = l }

abbrev pub level_set : ℕ → LevelSet
level_set n = record { 0 = n }

-- What a search for a level gives where there is none, and what it found.
abbrev pub no_level : ℕ
no_level = 4

unfoldable pub level_found : ℕ → Option Level
level_found l = cond (ltb l no_level) (Some (level l)) None

-- The same of a search that gives 0 where there is none.
unfoldable pub above_zero : ℕ → Option ℕ
above_zero n = cond (eqb n 0) None (Some n)

-- V, M and P.
unfoldable pub processors : State → ℕ
processors s = s.machine.processors

unfoldable pub shape : State → Shape
shape s = s.machine.shape

unfoldable pub top : Shape → ℕ
top z = z.max_level.0

unfoldable pub max_level_of : State → ℕ
max_level_of s = top (shape s)

unfoldable pub pages : State → ℕ
pages s = s.machine.pages

-- What the partition holds of its levels.
unfoldable pub partition : State → Partition
partition s = s.machine.partition

-- V processors 1..4, maximum level M 0..3, P pages 1..64.
unfoldable pub in_range : ℕ → ℕ → ℕ → Bool
in_range processors maximum pages =
    all_of (leb 1 processors ∷ leb processors 4 ∷ leb maximum 3 ∷ leb 1 pages ∷ leb pages 64 ∷ [])

-- The empty records: all 0, nothing enabled.
abbrev pub no_control : Control
no_control = record { reason = 0; from = level 0; rax = 0; rcx = 0 }

abbrev pub no_watch : Watch
no_watch = record { intercepts = 0; cr0_mask = 0; cr4_mask = 0 }

abbrev pub no_context : Context
no_context = record { registers = replicate 13 0; tpr = 0; pending = replicate 4 0; secure = replicate 4 0; control = no_control; watch = no_watch }

abbrev pub no_vp : VirtualProcessor
no_vp = record { active = level 0; enabled = level_set 0; shared = replicate 20 0; contexts = replicate 4 no_context }

-- What a list of records gives past its end. No reading goes there: a machine has room for four processors, four levels
-- and 64 pages, and a search goes through that room.
abbrev pub past_context : Context
past_context = record { registers = []; tpr = 0; pending = []; secure = []; control = no_control; watch = no_watch }

abbrev pub past_vp : VirtualProcessor
past_vp = record { active = level 0; enabled = level_set 0; shared = []; contexts = [] }

-- Level l is one of 0 to M; processor v is one of a number of processors, of the V; page p is one of the P.
unfoldable pub is_level : Shape → ℕ → Bool
is_level z l = leb l (top z) && ltb l 4

abbrev pub is_index : ℕ → ℕ → Bool
is_index count v = ltb v count && ltb v 4

unfoldable pub is_processor : State → ℕ → Bool
is_processor s v = is_index (processors s) v

unfoldable pub is_page : State → ℕ → Bool
is_page s p = ltb p (pages s) && ltb p 64

-- Processor v.
unfoldable pub vp : State → ℕ → VirtualProcessor
vp s v = cond (is_processor s v) (get_or s.machine.vps v past_vp) no_vp

-- What a processor holds of level l.
unfoldable pub context : Shape → VirtualProcessor → ℕ → Context
context z p l = cond (is_level z l) (get_or p.contexts l past_context) no_context

-- The active level of a processor, and of processor v.
unfoldable pub active_of : VirtualProcessor → ℕ
active_of p = p.active.0

unfoldable pub active : State → ℕ → ℕ
active s v = active_of (vp s v)

-- Level l, one of 0 to M, is in a set of levels.
unfoldable pub in_set : Shape → LevelSet → ℕ → Bool
in_set z x l = is_level z l && bit x.0 l

-- How many of the four levels there are.
abbrev pub level_count : Shape → ℕ
level_count z = cond (ltb (top z) 4) (top z + 1) 4

-- Level l is enabled on a processor, and on processor v.
unfoldable pub enabled_at : Shape → VirtualProcessor → ℕ → Bool
enabled_at z p l = in_set z p.enabled l

unfoldable pub enabled_on : State → ℕ → ℕ → Bool
enabled_on s v l = enabled_at (shape s) (vp s v) l

-- Level l is enabled on some processor, one of the V, as the state now is (02, request 5).
unfoldable pub enabled_anywhere : State → ℕ → Bool
enabled_anywhere s l = any 4 (λ v. enabled_on s v l)

-- Level l is enabled for the partition.
unfoldable pub enabled_for : State → ℕ → Bool
enabled_for s l = in_set (shape s) (partition s).enabled l

-- The partition has MBEC for level l.
unfoldable pub mbec_for : State → ℕ → Bool
mbec_for s l = in_set (shape s) (partition s).mbec l

-- The configuration word of a level above 0, and its mask of page p.
unfoldable pub config_in : Shape → List ℕ → ℕ → ℕ
config_in z configs l = cond (ltb 0 l && is_level z l) (number_at 4 configs l) 0

unfoldable pub config_of : State → ℕ → ℕ
config_of s l = config_in (shape s) (partition s).configs l

unfoldable pub mask_in : Shape → ℕ → List ℕ → ℕ → ℕ → ℕ
mask_in z P masks l p = cond (ltb 0 l && is_level z l && (ltb p P && ltb p 64)) (number_at 256 masks (4 * p + l)) 0

unfoldable pub mask_of : State → ℕ → ℕ → ℕ
mask_of s l p = mask_in (shape s) (pages s) (partition s).masks l p

-- The host's mask of page p: one mask for all pages.
unfoldable pub host_mask_of : State → ℕ → ℕ
host_mask_of s p = s.machine.host_mask

-- The word of page p.
unfoldable pub word_of : State → ℕ → ℕ
word_of s p = get_or s.words p 0

-- The secure configuration that level t holds for the lower level l: bit 0 MBEC, bit 1 TLB lock.
unfoldable pub secure_of : Shape → VirtualProcessor → ℕ → ℕ → ℕ
secure_of z p t l = cond (ltb l t) (number_at 4 (context z p t).secure l) 0

abbrev pub mbec_bit : ℕ
mbec_bit = 0

abbrev pub lock_bit : ℕ
lock_bit = 1

-- Vector n is pending: bit n % 64 of word n / 64.
unfoldable pub is_pending : Context → ℕ → Bool
is_pending c n = bit (number_at 4 c.pending (n / 64)) (n % 64)
