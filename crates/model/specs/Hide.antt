-- Hiding (01, "What demand 3 compares"): what is hidden gets fixed values, and so does what is no part of a state, so that two
-- states are alike exactly when they are equal once hidden. A field that is not named here is compared. Assumes nothing.
use Rattle.std.specs.Prelude.{Bool, true, not, cond, ◌&&◌, ◌||◌, ℕ, ◌/◌, ◌%◌, leb, ltb, eqb}
use Rattle.std.proofs.Math.Option.{Option, none, some}
use Rattle.word.specs.Field.{bit}
use Rattle.model.specs.Bounded.{any, bits}
use Rattle.model.specs.Masks.{read_bit, protects}
use Rattle.model.specs.Registers.{cr0, is_private}
use Rattle.model.specs.State.{State, Context, Machine, Partition, Shape, VirtualProcessor, LevelSet, level_set, no_control, no_watch, no_context, no_vp, processors, active, in_set, is_level, is_processor, is_page, shape, mask_of, host_mask_of}
use Rattle.model.specs.MapAt.{map_at}

-- Words of a page where the host mask, or the page's mask of a level from K up with protections on, lacks Read.
unfoldable pub closed : ℕ → State → ℕ → Bool
closed K s p = not (bit (host_mask_of s p) read_bit) || any 4 (λ t. leb K t && protects s t && not (bit (mask_of s t p) read_bit))

-- Private registers of level l, from K up, enabled or not; but not of a level that the run first enables on the processor, which concerns
-- only levels that are enabled on no processor at the start (02, request 5). `was` tells whether it is enabled on some processor at the start,
-- `is` whether it is enabled on this one now.
unfoldable pub hides : ℕ → Bool → ℕ → Bool → Bool
hides K was l is = leb K l && (was || not is)

-- A set of levels: no part of a state are levels above M.
unfoldable pub hide_set : Shape → LevelSet → LevelSet
hide_set z x = level_set (bits 4 (λ l. in_set z x l))

-- What a processor holds of level l, enabled or not as `on` tells, with its private registers hidden where h says so: 0, and CR0 1
-- at an enabled level. No part of a state: DR6 here where it is shared, what the level holds for itself and higher levels, and
-- level 0's control record and its intercept control word with its masks.
unfoldable pub hide_context : Shape → Bool → Bool → ℕ → Context → Context
hide_context z h on l c = record {
  registers = map_at (λ r x. cond (is_private z r) (cond h (cond (eqb r cr0 && on) 1 0) x) 0) c.registers;
  tpr = c.tpr;
  pending = c.pending;
  secure = map_at (λ j w. cond (ltb j l) w 0) c.secure;
  control = cond (eqb l 0) no_control c.control;
  watch = cond (eqb l 0) no_watch c.watch;
}

-- A processor; E tells the levels enabled on some processor at the start. No part of a state: levels above M, and DR6 here where it is private.
unfoldable pub hide_level : ℕ → (ℕ → Bool) → Shape → LevelSet → ℕ → Context → Context
hide_level K E z enabled l c =
    let on = in_set z enabled l in cond (is_level z l) (hide_context z (hides K (E l) l on) on l c) no_context

unfoldable pub hide_vp : ℕ → (ℕ → Bool) → Shape → VirtualProcessor → VirtualProcessor
hide_vp K E z p = record {
  active = p.active;
  enabled = hide_set z p.enabled;
  shared = map_at (λ i x. cond (eqb i 0 && not z.dr6_shared) 0 x) p.shared;
  contexts = map_at (hide_level K E z p.enabled) p.contexts;
}

-- The mask at place i is that of level i % 4 for page i / 4. Level 0 has no masks.
unfoldable pub is_mask : State → ℕ → Bool
is_mask s i = ltb 0 (i % 4) && is_level (shape s) (i % 4) && is_page s (i / 4)

-- What the partition holds. Level 0 has no configuration word.
unfoldable pub hide_partition : State → Partition → Partition
hide_partition s x = record {
  enabled = hide_set (shape s) x.enabled;
  mbec = hide_set (shape s) x.mbec;
  configs = map_at (λ l w. cond (ltb 0 l && is_level (shape s) l) w 0) x.configs;
  masks = map_at (λ i k. cond (is_mask s i) k 0) x.masks;
}

-- The state. E tells the levels enabled on some processor at the start, H the pages whose words are hidden.
unfoldable pub hide_machine : ℕ → (ℕ → Bool) → State → Machine
hide_machine K E s = record {
  processors = s.machine.processors;
  pages = s.machine.pages;
  host_mask = s.machine.host_mask;
  shape = s.machine.shape;
  partition = hide_partition s s.machine.partition;
  vps = map_at (λ v p. cond (is_processor s v) (hide_vp K E (shape s) p) no_vp) s.machine.vps;
}

unfoldable pub hide : ℕ → (ℕ → Bool) → (ℕ → Bool) → State → State
hide K E H s = record { machine = hide_machine K E s; words = map_at (λ p x. cond (H p) 0 x) s.words }

-- No level from K up is active on the maker's processor. An event without v, or with v out of range, has no maker.
unfoldable pub quiet_maker : ℕ → State → Option ℕ → Bool
quiet_maker K s none = true
quiet_maker K s (some v) = leb (processors s) v || ltb (active s v) K
