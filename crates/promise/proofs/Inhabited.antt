-- No promise is empty: for all parts there is a state that has them. Assumes nothing.
use mathlib.Core.Path.{◌≡◌, refl}
use mathlib.Core.Bool.{Bool, true, false, cond, ◌&&◌, ◌||◌, and-true, and-false, or-false}
use mathlib.Core.List.{List, [], ◌∷◌}
use Prim.Native.Nat.{ℕ}
use Rattle.model.specs.declared.machine.Partition.{Partition}
use Rattle.model.specs.declared.machine.Shape.{Shape}
use Rattle.model.specs.declared.machine.VirtualProcessor.{VirtualProcessor}
use Rattle.model.proofs.LevelSets.{none_in, all_in}
use Rattle.model.specs.Arrays.{number_at}
use Rattle.model.specs.Bounded.{any}
use Rattle.model.specs.Events.{locked}
use Rattle.model.specs.State.{State, level, level_set, no_context, shape, pages, partition, processors, is_processor, is_level, top, vp, context, secure_of, in_set, enabled_at, enabled_on, enabled_anywhere, active_of, active}
use Rattle.model.specs.Updates.{with_active, with_enabled, with_secure}
use Rattle.promise.specs.Promise.{Some, SomeOther, SomeLocked}

-- A state of two processors with these parts.
abbrev state_with : Shape → ℕ → Partition → VirtualProcessor → VirtualProcessor → ℕ → List ℕ → State
state_with z P x p q k ws = record {
  machine = record { processors = 2; pages = P; host_mask = k; shape = z; partition = x; vps = p ∷ q ∷ p ∷ p ∷ [] };
  words = ws;
}

pub some-state : (z : Shape) (P : ℕ) (x : Partition) (p : VirtualProcessor) (k : ℕ) (ws : List ℕ) → Some z P x p k ws
unfolding shape pages partition processors is_processor vp active_of active
some-state z P x p k ws = record {
  state = state_with z P x p p k ws;
  v = 0;
  runs = record { shaped = refl; there = refl; holds = refl };
  acts = record { shaped = refl; paged = refl; keeps = refl; actor = refl };
  lends = record { host = refl; words = refl };
}

-- On the second processor level l is active, and every level is enabled, or those that the first has enabled.
abbrev second : VirtualProcessor → ℕ → Bool → VirtualProcessor
second p l elsewhere = with_enabled (with_active p l) (level_set (cond elsewhere 15 p.enabled.0))

enabled-elsewhere : (z : Shape) (p : VirtualProcessor) (t : ℕ) (elsewhere : Bool)
    → (in_set z p.enabled t || in_set z (level_set (cond elsewhere 15 p.enabled.0)) t) ≡ (in_set z p.enabled t || (is_level z t && elsewhere))
enabled-elsewhere z p t true = rw (all_in, and-true)
enabled-elsewhere z p t false = rw and-false (go (in_set z p.enabled t))
  where
    go : (b : Bool) → (b || b) ≡ (b || false)
    go true = refl
    go false = refl

pub some-other : (z : Shape) (P : ℕ) (x : Partition) (l : ℕ) (p : VirtualProcessor) (t : ℕ) (elsewhere : Bool) → SomeOther z P x l p t elsewhere
unfolding shape pages partition processors is_processor vp active_of active enabled_anywhere enabled_on enabled_at any
some-other z P x l p t elsewhere = record {
  state = state_with z P x p (second p l elsewhere) 0 [];
  v = 1;
  w = 0;
  acts = record { shaped = refl; paged = refl; keeps = refl; actor = refl };
  runs = record { shaped = refl; there = refl; holds = refl };
  others = record { anywhere = rw (none_in, or-false, or-false) (enabled-elsewhere z p t elsewhere) };
}

-- Level 1 holds a lock on level 0, or a word without it.
pub some-locked : (held : Bool) → SomeLocked held
unfolding shape processors is_processor is_level top vp context secure_of active_of active locked any number_at
some-locked held = go held
  where
    holding : ℕ → VirtualProcessor
    holding w = record { active = level 0; enabled = level_set 1; shared = []; contexts = no_context ∷ with_secure no_context (w ∷ []) ∷ [] }

    locked_by : ℕ → State
    locked_by w = state_with (record { max_level = level 1; dr6_shared = false; smep = false }) 0 (record { enabled = level_set 1; mbec = level_set 0; configs = []; masks = [] })
        (holding w) (holding w) 0 []

    go : (b : Bool) → SomeLocked b
    go true = record { state = locked_by 2; v = 0; there = refl; is = refl }
    go false = record { state = locked_by 1; v = 0; there = refl; is = refl }
