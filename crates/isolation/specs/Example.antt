-- An instance of demand 3, with K = 1: two states that differ in RIP of level 1, which is enabled, in RSP of level 2, which is
-- not, and in the word of page 1, which level 1 has closed; and a list of events. And a state in which level 1 is enabled on one of two
-- processors, with any list of events. Assumes nothing.
use Rattle.std.specs.Prelude.{◌≡◌, true, false, List, [], ◌∷◌, ℕ, replicate}
use Rattle.model.specs.declared.answer.Answer.TheVariants.{Done, Refused, Intercept}
use Rattle.model.specs.declared.answer.Refusal.{Refusal}
use Rattle.model.specs.declared.event.Event.{Event}
use Rattle.model.specs.declared.event.Action.TheVariants.{Envp, Call, Read, Flush, Rreg, Wreg}
use Rattle.model.specs.declared.event.Event.TheVariants.{Made, Int}
use Rattle.model.specs.declared.machine.Context.{Context}
use Rattle.model.specs.declared.machine.VirtualProcessor.{VirtualProcessor}
use Rattle.model.specs.declared.quantity.Page.{Page}
use Rattle.model.specs.declared.quantity.Processor.{Processor}
use Rattle.model.specs.Registers.{private_of}
use Rattle.model.specs.State.{State, level, level_set, shape, vp, word_of, no_control, no_watch}
use Rattle.model.specs.Step.{answers, final}
use Rattle.isolation.specs.Isolation.{Isolated, quiet}

abbrev pub context_of : ℕ → ℕ → Context
context_of rip rsp = record { registers = rip ∷ rsp ∷ 0 ∷ 1 ∷ replicate 9 0; tpr = 0; pending = replicate 4 0; secure = replicate 4 0; control = no_control; watch = no_watch }

-- A processor at level 0: the set of its enabled levels, RIP of level 1 and RSP of level 2.
abbrev pub processor_with : ℕ → ℕ → ℕ → VirtualProcessor
processor_with enabled rip rsp = record {
  active = level 0;
  enabled = level_set enabled;
  shared = replicate 20 0;
  contexts = context_of 0 0 ∷ context_of rip 0 ∷ context_of 0 rsp ∷ context_of 0 0 ∷ [];
}

-- Two processors, levels 0 to 2, two pages. Level 1 has protections on, and its mask of page 1 is 0.
abbrev pub state_with : List VirtualProcessor → ℕ → State
state_with vps secret = record {
  machine = record {
    processors = 2;
    pages = 2;
    host_mask = 15;
    shape = record { max_level = level 2; dr6_shared = false; smep = false };
    partition = record { enabled = level_set 7; mbec = level_set 0; configs = 62 ∷ 63 ∷ 62 ∷ 62 ∷ []; masks = 15 ∷ 15 ∷ 15 ∷ 15 ∷ 15 ∷ 0 ∷ replicate 250 15 };
    vps = vps;
  };
  words = 5 ∷ secret ∷ [];
}

-- Level 1 is enabled on both processors.
abbrev pub state_of : ℕ → ℕ → ℕ → State
state_of rip rsp secret = state_with (replicate 4 (processor_with 3 rip rsp)) secret

-- Level 1 is enabled on processor 0 alone; its RIP on processor 1 is 9.
abbrev pub guarded : State
guarded = state_with (processor_with 3 7 0 ∷ processor_with 1 9 0 ∷ replicate 2 (processor_with 1 0 0)) 70

abbrev pub vp_of : ℕ → Processor
vp_of n = record { 0 = n }

abbrev pub page_of : ℕ → Page
page_of n = record { 0 = n }

abbrev pub events : List Event
events =
    -- RCX is set, so the call into level 1 is refused
    Made (vp_of 0) 0 (Wreg (level 0) 14 5) ∷ Made (vp_of 0) 0 (Call 3)
    -- a read that is done, an event out of range, a register of a higher level
    ∷ Made (vp_of 1) 0 (Read (page_of 0)) ∷ Made (vp_of 9) 0 Flush ∷ Made (vp_of 0) 0 (Rreg (level 1) 0)
    -- level 2 is first enabled, on processor 1
    ∷ Made (vp_of 0) 0 (Envp (vp_of 1) (level 2) 4096 8192 1)
    -- an interrupt enters level 1 on processor 0, an intercept on processor 1, and an interrupt enters level 2 there
    ∷ Int (vp_of 0) (level 1) 48 ∷ Made (vp_of 1) 0 (Read (page_of 1)) ∷ Int (vp_of 1) (level 2) 50 ∷ []

-- What the theorem says of them.
abbrev pub one : State
one = state_of 7 3 70

abbrev pub two : State
two = state_of 8 4 80

pub record Instance : Type 0 where
  -- its hypotheses hold, so it holds
  pub isolated : Isolated 1 one two events
  -- the answers of the first run, and so those of the second
  pub first-answers : answers one events ≡ Done 0 ∷ Refused Refusal.RcxNotZero ∷ Done 5 ∷ Refused Refusal.NoSuchProcessor ∷ Refused Refusal.TargetAbove ∷ Done 0 ∷ Done 1 ∷ Intercept (level 1) ∷ Done 1 ∷ []
  pub second-answers : answers two events ≡ answers one events
  -- RIP of level 1 on processor 0, RSP of level 2 there, and the word of page 1 stand as they began
  pub rip-kept : private_of (shape (final two events)) (vp (final two events) 0) 1 0 ≡ 8
  pub rsp-kept : private_of (shape (final two events)) (vp (final two events) 0) 2 1 ≡ 4
  pub word_kept : word_of (final two events) 1 ≡ 80
  -- RIP of level 2 on processor 1, which the run first enabled, is equal in both
  pub rip-first : private_of (shape (final one events)) (vp (final one events) 1) 2 0 ≡ private_of (shape (final two events)) (vp (final two events) 1) 2 0
  -- whatever levels below 1 do, RIP of level 1 on processor 1 stands as it began: level 1 is enabled on processor 0, and so guards its processors
  pub rip-guarded : (es : List Event) → quiet 1 guarded es ≡ true → private_of (shape (final guarded es)) (vp (final guarded es) 1) 1 0 ≡ 9
