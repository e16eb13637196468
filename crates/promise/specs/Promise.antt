-- What the function of an event promises of the model's rule: in every state that has the parts which the function is given, the
-- rule gives the answer and the parts that the function leaves. No promise is empty: there is such a state for all parts (`Some`).
-- Assumes nothing.
use Rattle.std.specs.Prelude.{◌≡◌, Bool, true, ◌&&◌, ◌||◌, List, ℕ}
use Rattle.model.specs.declared.answer.Answer.{Answer}
use Rattle.model.specs.declared.machine.Partition.{Partition}
use Rattle.model.specs.declared.machine.Shape.{Shape}
use Rattle.model.specs.declared.machine.VirtualProcessor.{VirtualProcessor}
use Rattle.model.specs.Events.{locked}
use Rattle.model.specs.State.{State, shape, pages, partition, is_level, is_processor, vp, active_of, active, enabled_at, enabled_anywhere}
use Rattle.model.specs.Step.{Outcome}

-- The answer r, and the state s.
abbrev pub outcome_of : Answer → State → Outcome
outcome_of r s = record { answer = r; next = s }

-- The state s has the shape z, and processor v, which is one of its own, the record p.
pub record Runs (z : Shape) (p : VirtualProcessor) (s : State) (v : ℕ) : Type 0 where
  pub shaped : shape s ≡ z
  pub there : is_processor s v ≡ true
  pub holds : vp s v ≡ p

-- The state s has the shape z and this number of pages, its partition holds x, and level l is active on processor v.
pub record Acts (z : Shape) (P : ℕ) (x : Partition) (l : ℕ) (s : State) (v : ℕ) : Type 0 where
  pub shaped : shape s ≡ z
  pub paged : pages s ≡ P
  pub keeps : partition s ≡ x
  pub actor : active s v ≡ l

-- The state s has the host's mask k and the words ws.
pub record Lends (k : ℕ) (ws : List ℕ) (s : State) : Type 0 where
  pub host : s.machine.host_mask ≡ k
  pub words : s.words ≡ ws

-- Level t is enabled on some processor of the state s exactly where the record p has it enabled, or else where `elsewhere` tells so of a level of the shape z.
pub record Elsewhere (z : Shape) (p : VirtualProcessor) (t : ℕ) (elsewhere : Bool) (s : State) : Type 0 where
  pub anywhere : enabled_anywhere s t ≡ (enabled_at z p t || (is_level z t && elsewhere))

-- There is a state with all parts that an event of one processor is given.
pub record Some (z : Shape) (P : ℕ) (x : Partition) (p : VirtualProcessor) (k : ℕ) (ws : List ℕ) : Type 0 where
  pub state : State
  pub v : ℕ
  pub runs : Runs z p state v
  pub acts : Acts z P x (active_of p) state v
  pub lends : Lends k ws state

-- There is one in which level l acts on a processor, another processor has the record p, and level t is enabled elsewhere or not.
pub record SomeOther (z : Shape) (P : ℕ) (x : Partition) (l : ℕ) (p : VirtualProcessor) (t : ℕ) (elsewhere : Bool) : Type 0 where
  pub state : State
  pub v : ℕ
  pub w : ℕ
  pub acts : Acts z P x l state v
  pub runs : Runs z p state w
  pub others : Elsewhere z p t elsewhere state

-- There is one in which a TLB lock is held on the active level of a processor, and one in which none is.
pub record SomeLocked (held : Bool) : Type 0 where
  pub state : State
  pub v : ℕ
  pub there : is_processor state v ≡ true
  pub is : locked state (active state v) ≡ held
