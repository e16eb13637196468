-- The updates of a state that the events are made of, in three layers: a context, a processor, the state. Each keeps
-- whatever it does not name. Assumes nothing.
use Rattle.std.specs.Prelude.{Bool, true, cond, List, ℕ, zero, suc, ◌+◌, ◌-◌, ◌*◌, ◌/◌, ◌%◌, ltb, set}
use Rattle.word.specs.Field.{put}
use Rattle.model.specs.Arrays.{number_at, stored}
use Rattle.model.specs.Registers.{dr6, is_private}
use Rattle.model.specs.State.{State, Context, Control, Machine, Partition, Shape, VirtualProcessor, LevelSet, Watch, level, level_set, shape, partition, is_level, vp, context, lock_bit}

-- A context with one field changed.
abbrev pub with_registers : Context → List ℕ → Context
with_registers c rs = record { registers = rs; tpr = c.tpr; pending = c.pending; secure = c.secure; control = c.control; watch = c.watch }

abbrev pub with_tpr : Context → ℕ → Context
with_tpr c class = record { registers = c.registers; tpr = class; pending = c.pending; secure = c.secure; control = c.control; watch = c.watch }

abbrev pub with_pending : Context → List ℕ → Context
with_pending c ps = record { registers = c.registers; tpr = c.tpr; pending = ps; secure = c.secure; control = c.control; watch = c.watch }

abbrev pub with_secure : Context → List ℕ → Context
with_secure c ws = record { registers = c.registers; tpr = c.tpr; pending = c.pending; secure = ws; control = c.control; watch = c.watch }

abbrev pub with_control : Context → Control → Context
with_control c k = record { registers = c.registers; tpr = c.tpr; pending = c.pending; secure = c.secure; control = k; watch = c.watch }

abbrev pub with_watch : Context → Watch → Context
with_watch c w = record { registers = c.registers; tpr = c.tpr; pending = c.pending; secure = c.secure; control = c.control; watch = w }

-- What a level asks to be told of registers, with another intercept control word, or another mask for writes of CR4 where `four` says so, and
-- else of CR0.
abbrev pub with_intercepts : Watch → ℕ → Watch
with_intercepts w word = record { intercepts = word; cr0_mask = w.cr0_mask; cr4_mask = w.cr4_mask }

abbrev pub with_cr_mask : Watch → Bool → ℕ → Watch
with_cr_mask w four mask = record { intercepts = w.intercepts; cr0_mask = cond four w.cr0_mask mask; cr4_mask = cond four mask w.cr4_mask }

-- A processor with one field changed.
abbrev pub with_active : VirtualProcessor → ℕ → VirtualProcessor
with_active p l = record { active = level l; enabled = p.enabled; shared = p.shared; contexts = p.contexts }

abbrev pub with_enabled : VirtualProcessor → LevelSet → VirtualProcessor
with_enabled p x = record { active = p.active; enabled = x; shared = p.shared; contexts = p.contexts }

abbrev pub with_shared : VirtualProcessor → List ℕ → VirtualProcessor
with_shared p rs = record { active = p.active; enabled = p.enabled; shared = rs; contexts = p.contexts }

abbrev pub with_contexts : VirtualProcessor → List Context → VirtualProcessor
with_contexts p cs = record { active = p.active; enabled = p.enabled; shared = p.shared; contexts = cs }

-- What the partition holds, with one field changed.
abbrev pub with_configs : Partition → List ℕ → Partition
with_configs x ws = record { enabled = x.enabled; mbec = x.mbec; configs = ws; masks = x.masks }

abbrev pub with_masks : Partition → List ℕ → Partition
with_masks x ks = record { enabled = x.enabled; mbec = x.mbec; configs = x.configs; masks = ks }

-- A set of levels with level l or without it. Beyond M nothing is stored.
unfoldable pub with_level : Shape → LevelSet → ℕ → Bool → LevelSet
with_level z x l present = cond (is_level z l) (level_set (put l 1 x.0 (cond present 1 0))) x

-- One processor. Beyond M nothing is stored.
unfoldable pub put_context : Shape → VirtualProcessor → ℕ → Context → VirtualProcessor
put_context z p l c = with_contexts p (cond (is_level z l) (set p.contexts l c) p.contexts)

unfoldable pub set_shared : VirtualProcessor → ℕ → ℕ → VirtualProcessor
set_shared p r x = with_shared p (stored 20 p.shared (r - dr6) x)

unfoldable pub set_private : Shape → VirtualProcessor → ℕ → ℕ → ℕ → VirtualProcessor
set_private z p l r x = let c = context z p l in put_context z p l (with_registers c (stored 13 c.registers r x))

unfoldable pub set_register : Shape → VirtualProcessor → ℕ → ℕ → ℕ → VirtualProcessor
set_register z p l r x = cond (is_private z r) (set_private z p l r x) (set_shared p r x)

unfoldable pub set_tpr : Shape → VirtualProcessor → ℕ → ℕ → VirtualProcessor
set_tpr z p l class = put_context z p l (with_tpr (context z p l) class)

-- Vector n of level l is pending where x is 1, and is not where x is 0.
unfoldable pub set_pending : Shape → VirtualProcessor → ℕ → ℕ → ℕ → VirtualProcessor
set_pending z p l n x =
    let c = context z p l in
    put_context z p l (with_pending c (stored 4 c.pending (n / 64) (put (n % 64) 1 (number_at 4 c.pending (n / 64)) x)))

-- Level t's secure configuration of the lower level l.
unfoldable pub set_secure : Shape → VirtualProcessor → ℕ → ℕ → ℕ → VirtualProcessor
set_secure z p t l w = let c = context z p t in put_context z p t (with_secure c (stored 4 c.secure l w))

-- What level l asks to be told of registers.
unfoldable pub set_watch : Shape → VirtualProcessor → ℕ → Watch → VirtualProcessor
set_watch z p l w = put_context z p l (with_watch (context z p l) w)

-- Level t's TLB locks are cleared, in the first n of its words and in all.
unfoldable pub cleared : ℕ → List ℕ → List ℕ
cleared zero ws = ws
cleared (suc l) ws = let us = cleared l ws in stored 4 us l (put lock_bit 1 (number_at 4 us l) 0)

unfoldable pub unlocked : Shape → VirtualProcessor → ℕ → VirtualProcessor
unlocked z p t = let c = context z p t in put_context z p t (with_secure c (cleared 4 c.secure))

-- The partition. Level l is enabled, with MBEC or without.
unfoldable pub enable_level : Shape → Partition → ℕ → Bool → Partition
enable_level z x l mbec = record {
  enabled = with_level z x.enabled l true;
  mbec = with_level z x.mbec l mbec;
  configs = x.configs;
  masks = x.masks;
}

unfoldable pub set_config : Partition → ℕ → ℕ → Partition
set_config x l w = with_configs x (stored 4 x.configs l w)

unfoldable pub set_mask : Partition → ℕ → ℕ → ℕ → Partition
set_mask x l p k = with_masks x (stored 256 x.masks (4 * p + l) k)

-- Level l's mask of each page below P, among the first n and among all.
unfoldable pub filled : ℕ → ℕ → ℕ → ℕ → List ℕ → List ℕ
filled zero P l k ks = ks
filled (suc p) P l k ks = let ns = filled p P l k ks in cond (ltb p P) (stored 256 ns (4 * p + l) k) ns

unfoldable pub fill_masks : ℕ → Partition → ℕ → ℕ → Partition
fill_masks P x l k = with_masks x (filled 64 P l k x.masks)

-- The state.
abbrev pub with_vps : Machine → List VirtualProcessor → Machine
with_vps m ps = record { processors = m.processors; pages = m.pages; host_mask = m.host_mask; shape = m.shape; partition = m.partition; vps = ps }

abbrev pub with_partition : Machine → Partition → Machine
with_partition m x = record { processors = m.processors; pages = m.pages; host_mask = m.host_mask; shape = m.shape; partition = x; vps = m.vps }

unfoldable pub put_vp : State → ℕ → VirtualProcessor → State
put_vp s v p = record { machine = with_vps s.machine (stored 4 s.machine.vps v p); words = s.words }

unfoldable pub put_partition : State → Partition → State
put_partition s x = record { machine = with_partition s.machine x; words = s.words }

unfoldable pub set_word : State → ℕ → ℕ → State
set_word s p x = record { machine = s.machine; words = set s.words p x }

-- A change of one processor's record, and of what the partition holds.
unfoldable pub on_vp : State → ℕ → (Shape → VirtualProcessor → VirtualProcessor) → State
on_vp s v f = put_vp s v (f (shape s) (vp s v))

unfoldable pub on_partition : State → (Shape → Partition → Partition) → State
on_partition s f = put_partition s (f (shape s) (partition s))
