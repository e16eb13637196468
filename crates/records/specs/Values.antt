-- The quantity at each place of a state, and the state that has given quantities at its places (02, request 2). Assumes nothing.
use Rattle.std.specs.Prelude.{Bool, true, false, cond, List, [], ◌∷◌, ◌≡◌, ℕ, zero, suc, ◌+◌, ◌/◌, ◌%◌, ◌<◌, ◌^◌, eqb, length, get_or}
use Rattle.model.specs.declared.machine.Setup.{Setup}
use Rattle.model.specs.declared.quantity.Processor.{Processor}
use Rattle.model.specs.Arrays.{number_at}
use Rattle.model.specs.Bounded.{bits}
use Rattle.model.specs.Hide.{hide}
use Rattle.model.specs.Registers.{dr6, private_of, shared_of}
use Rattle.model.specs.declared.machine.Context.{Context}
use Rattle.model.specs.declared.machine.Partition.{Partition}
use Rattle.model.specs.declared.machine.VirtualProcessor.{VirtualProcessor}
use Rattle.model.specs.declared.quantity.Level.{Level}
use Rattle.model.specs.declared.set.LevelSet.{LevelSet}
use Rattle.model.specs.State.{State, level, level_set, shape, vp, context, past_vp, past_context, active, enabled_for, mbec_for, enabled_on, config_of, mask_of, word_of, secure_of}
use Rattle.script.specs.EventForms.{processor, page}
use Rattle.records.specs.Places.{Place, PartitionEnabled, Mbec, Config, Active, Shared, Register, Tpr, Pending, Enabled, Secure, Reason, From, Rax, Rcx, Word, Mask, Intercepts, Cr0Mask, Cr4Mask, known}

-- What the first record says of a state.
abbrev pub setup_at : State → Setup
setup_at s = record {
  processors = s.machine.processors;
  pages = s.machine.pages;
  host_mask = s.machine.host_mask;
  shape = s.machine.shape;
}

-- 1 for yes, 0 for no.
abbrev pub number : Bool → ℕ
number b = cond b 1 0

-- The quantity at a place.
unfoldable pub value_at : State → Place → ℕ
value_at s (PartitionEnabled t) = number (enabled_for s t.0)
value_at s (Mbec t) = number (mbec_for s t.0)
value_at s (Config t) = config_of s t.0
value_at s (Active v) = active s v.0
value_at s (Shared v r) = shared_of (vp s v.0) r
value_at s (Register v l r) = private_of (shape s) (vp s v.0) l.0 r
value_at s (Tpr v l) = (context (shape s) (vp s v.0) l.0).tpr
value_at s (Pending v l i) = number_at 4 (context (shape s) (vp s v.0) l.0).pending i
value_at s (Enabled v l) = number (enabled_on s v.0 l.0)
value_at s (Secure v l k) = secure_of (shape s) (vp s v.0) l.0 k.0
value_at s (Reason v l) = (context (shape s) (vp s v.0) l.0).control.reason
value_at s (From v l) = (context (shape s) (vp s v.0) l.0).control.from.0
value_at s (Rax v l) = (context (shape s) (vp s v.0) l.0).control.rax
value_at s (Rcx v l) = (context (shape s) (vp s v.0) l.0).control.rcx
value_at s (Word p) = word_of s p.0
value_at s (Mask p t) = mask_of s t.0 p.0
value_at s (Intercepts v l) = (context (shape s) (vp s v.0) l.0).watch.intercepts
value_at s (Cr0Mask v l) = (context (shape s) (vp s v.0) l.0).watch.cr0_mask
value_at s (Cr4Mask v l) = (context (shape s) (vp s v.0) l.0).watch.cr4_mask

-- A list by its entries.
unfoldable pub table : {A : Type 0} → ℕ → (ℕ → A) → List A
table zero f = []
table (suc n) f = f 0 ∷ table n (λ i. f (suc i))

-- The state of given quantities, which are 0 at places that the state has not. A set of levels: level 0 is in it as `lowest` tells,
-- a level above 0 where its quantity is 1.
abbrev pub set_from : Bool → (Level → ℕ) → LevelSet
set_from lowest quantity = level_set (bits 4 (λ l. cond (eqb l 0) lowest (eqb (quantity (level l)) 1)))

-- What a processor holds of a level.
abbrev pub context_from : (Place → ℕ) → Processor → Level → Context
context_from g v l = record {
  registers = table 13 (λ r. g (Register v l r));
  tpr = g (Tpr v l);
  pending = table 4 (λ i. g (Pending v l i));
  secure = table 4 (λ k. g (Secure v l (level k)));
  control = record { reason = g (Reason v l); from = level (g (From v l)); rax = g (Rax v l); rcx = g (Rcx v l) };
  watch = record { intercepts = g (Intercepts v l); cr0_mask = g (Cr0Mask v l); cr4_mask = g (Cr4Mask v l) };
}

-- A processor. Level 0 is enabled on each.
abbrev pub vp_from : Setup → (Place → ℕ) → Processor → VirtualProcessor
vp_from setup g v = record {
  active = level (g (Active v));
  enabled = set_from (known setup v) (λ l. g (Enabled v l));
  shared = table 20 (λ i. g (Shared v (dr6 + i)));
  contexts = table 4 (λ l. context_from g v (level l));
}

-- What the partition holds. Level 0 is enabled, and the partition has no MBEC for it.
abbrev pub partition_from : (Place → ℕ) → Partition
partition_from g = record {
  enabled = set_from true (λ l. g (PartitionEnabled l));
  mbec = set_from false (λ l. g (Mbec l));
  configs = table 4 (λ l. g (Config (level l)));
  masks = table 256 (λ i. g (Mask (page (i / 4)) (level (i % 4))));
}

unfoldable pub state_from : Setup → (Place → ℕ) → State
state_from setup g = record {
  machine = record {
    processors = setup.processors;
    pages = setup.pages;
    host_mask = setup.host_mask;
    shape = setup.shape;
    partition = partition_from g;
    vps = table 4 (λ v. vp_from setup g (processor v));
  };
  words = table setup.pages (λ p. g (Word (page p)));
}

-- All that is part of a state: nothing is hidden from above the highest level, and what is no part gets fixed values.
unfoldable pub plain : State → State
plain s = hide 4 (λ l. false) (λ p. false) s

-- The arrays have their sizes and each quantity is a word, as in every state that code lends.
pub record SizedContext (k : Context) : Type 0 where
  pub registers : length k.registers ≡ 13
  pub pending : length k.pending ≡ 4
  pub secure : length k.secure ≡ 4

pub record SizedVp (p : VirtualProcessor) : Type 0 where
  pub shared : length p.shared ≡ 20
  pub contexts : length p.contexts ≡ 4
  pub each : (l : ℕ) → l < 4 → SizedContext (get_or p.contexts l past_context)

pub record Lengths (s : State) : Type 0 where
  pub configs : length s.machine.partition.configs ≡ 4
  pub masks : length s.machine.partition.masks ≡ 256
  pub vps : length s.machine.vps ≡ 4
  pub each : (v : ℕ) → v < 4 → SizedVp (get_or s.machine.vps v past_vp)

pub record Sized (s : State) : Type 0 where
  pub lengths : Lengths s
  pub fits : (p : Place) → value_at s p < 2 ^ 64
