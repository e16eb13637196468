-- The twenty-one events (01, "Events"; 02, request 6): for each its refusals, rising, and its value and effect where none applies.
-- Assumes nothing.
use Rattle.std.specs.Prelude.{Bool, not, cond, ◌&&◌, ◌||◌, List, [], ◌∷◌, ℕ, leb, ltb, eqb}
use Rattle.word.specs.Field.{bit}
use Rattle.word.specs.RegisterLayouts.{pack_as, partition_status, vp_status, capabilities}
use Rattle.model.specs.Answers.{Answer, Intercept, Refusal, ◌when◌}
use Rattle.model.specs.Bounded.{any, bits}
use Rattle.model.specs.Entry.{highest_ready, next_up, called, returned, enters, interrupted, started, acknowledged}
use Rattle.model.specs.Masks.{valid_mask, kernel_only, default_mask, turns_on, reserved_set, secure_reserved_set, protects_in, protects}
use Rattle.model.specs.Memory.{denied, receiver, host_denies, mbec_on, is_user}
use Rattle.model.specs.Registers.{cr0, rflags, rcx, protected_bit, interrupt_bit, private_of, shared_of, register_of}
use Rattle.model.specs.State.{State, Partition, Shape, Access, Mode, Watch, processors, max_level_of, pages, is_level, shape, vp, context, level, no_level, active_of, active, enabled_on, enabled_anywhere, enabled_for, mbec_for, config_of, word_of, secure_of, mbec_bit, lock_bit}
use Rattle.model.specs.Updates.{enable_level, set_config, set_mask, fill_masks, set_register, set_tpr, set_secure, set_watch, with_intercepts, with_cr_mask, set_word, on_vp, on_partition}
use Rattle.model.specs.Watching.{intercept_reserved_set, asks_read, asks_write, watcher}

-- What an event is refused or intercepted for, and its value and next state where it is done.
pub record Rule : Type 0 where
  pub refusals : List (Answer × Bool)
  pub value : ℕ
  pub effect : State

-- The actor's own private register r.
unfoldable pub own : State → ℕ → ℕ → ℕ
own s v r = private_of (shape s) (vp s v) (active s v) r

-- All but read, write and fetch need kernel mode.
abbrev pub kernel : Mode → List (Answer × Bool) → List (Answer × Bool)
kernel mode cs = Refusal.UserMode when is_user mode ∷ cs

-- Levels above 15 are out of range. 3 is for a level above M; where a level above 0 is needed, for 0 too.
abbrev pub out_of_range : ℕ → Answer × Bool
out_of_range l = Refusal.LevelOutOfRange when ltb 15 l

abbrev pub above_maximum : State → ℕ → Answer × Bool
above_maximum s l = Refusal.AboveMaximum when ltb (max_level_of s) l

abbrev pub level_zero : ℕ → Answer × Bool
level_zero l = Refusal.LevelZero when eqb l 0

-- enpart v mode t mbec(0/1): 3 if t is 0 or above M; 4 if actor >= t (a lower level initiates); 5. Level t is enabled, with
-- MBEC or without.
abbrev pub enpart : State → ℕ → Mode → ℕ → ℕ → Rule
enpart s v mode t mbec = record {
  refusals = out_of_range t ∷ Refusal.MbecOutOfRange when ltb 1 mbec ∷ kernel mode (
      level_zero t ∷ above_maximum s t ∷ Refusal.TargetNotAbove when leb t (active s v) ∷ Refusal.EnabledForPartition when enabled_for s t ∷ []);
  value = 0;
  effect = on_partition s (λ z x. enable_level z x t (eqb mbec 1));
}

-- envp v mode w t rip rsp cr0: 1 if cr0 bit 0 is clear; 3 as above; 4 (02, request 5): once t is enabled on any processor, if the actor is below t, and
-- before that if it is not; 5 if t is enabled on w; 6 if not for the partition.
abbrev pub envp : State → ℕ → Mode → ℕ → ℕ → ℕ → ℕ → ℕ → Rule
envp s v mode w t ip sp cr = record {
  refusals = Refusal.NoSuchTarget when leb (processors s) w ∷ out_of_range t ∷ Refusal.Cr0InRealMode when not (bit cr protected_bit) ∷ kernel mode (
      level_zero t ∷ above_maximum s t ∷ Refusal.TargetNotAbove when (not (enabled_anywhere s t) && leb t (active s v))
      ∷ Refusal.TargetGuarded when (enabled_anywhere s t && ltb (active s v) t) ∷ Refusal.EnabledOnProcessor when enabled_on s w t
      ∷ Refusal.NotEnabledForPartition when not (enabled_for s t) ∷ []);
  value = 0;
  effect = on_vp s w (λ z p. started z p t ip sp cr);
}

-- call v mode len: 2 in real mode (actor's CR0 bit 0 clear), if RCX is not 0, or if no higher level is enabled on v.
-- Value: the level entered.
abbrev pub call : State → ℕ → Mode → ℕ → Rule
call s v mode len = record {
  refusals = Refusal.LengthOutOfRange when (eqb len 0 || ltb 15 len) ∷ kernel mode (
      Refusal.CallInRealMode when not (bit (own s v cr0) protected_bit) ∷ Refusal.RcxNotZero when not (eqb (shared_of (vp s v) rcx) 0)
      ∷ Refusal.NoHigherLevel when eqb (next_up (shape s) (vp s v)) no_level ∷ []);
  value = next_up (shape s) (vp s v);
  effect = on_vp s v (λ z p. called z p len);
}

-- ret v mode len (1..15 for any reason): 2 at level 0 or if RCX is above 1. Value: the level now active.
abbrev pub ret : State → ℕ → Mode → ℕ → Rule
ret s v mode len = record {
  refusals = Refusal.LengthOutOfRange when (eqb len 0 || ltb 15 len) ∷ kernel mode (
      Refusal.ReturnAtLevelZero when eqb (active s v) 0 ∷ Refusal.RcxAboveOne when ltb 1 (shared_of (vp s v) rcx) ∷ []);
  value = active_of (returned (shape s) (vp s v) len);
  effect = on_vp s v (λ z p. returned z p len);
}

-- read v mode p; write v mode p x; fetch v mode p: as under Memory. A read's value is the word.
abbrev pub by_access : State → ℕ → Mode → ℕ → Access → List (Answer × Bool)
by_access s v mode p access =
    Refusal.NoSuchPage when leb (pages s) p
    ∷ (Intercept (level (receiver s v mode p access)), ltb (receiver s v mode p access) no_level)
    ∷ Refusal.NoReceiver when denied s v mode p access
    ∷ Refusal.HostDenies when host_denies s p access
    ∷ []

abbrev pub read : State → ℕ → Mode → ℕ → Rule
read s v mode p = record { refusals = by_access s v mode p Access.Read; value = word_of s p; effect = s }

abbrev pub write : State → ℕ → Mode → ℕ → ℕ → Rule
write s v mode p x = record { refusals = by_access s v mode p Access.Write; value = 0; effect = set_word s p x }

abbrev pub fetch : State → ℕ → Mode → ℕ → Rule
fetch s v mode p = record { refusals = by_access s v mode p Access.Fetch; value = 0; effect = s }

-- protect v mode p mask: 1 if invalid; 4 at level 0; 6 if the actor's protections are off; 8. Sets the actor's own mask.
abbrev pub protect : State → ℕ → Mode → ℕ → ℕ → Rule
protect s v mode p k = record {
  refusals = Refusal.NoSuchPage when leb (pages s) p ∷ Refusal.InvalidMask when not (valid_mask k) ∷ kernel mode (
      Refusal.ProtectAtLevelZero when eqb (active s v) 0 ∷ Refusal.ProtectionsOff when not (protects s (active s v))
      ∷ Refusal.KernelOnlyExecute when (kernel_only k && mbec_for s (active s v)) ∷ []);
  value = 0;
  effect = on_partition s (λ z x. set_mask x (active s v) p k);
}

-- config v mode g word: 1 if a reserved bit is set, or if the mask is invalid; 3; 4 if g > actor; 6 if g is not enabled for the
-- partition; 7 if bit 0 was already set and the word clears it or changes the default mask; 8 for the default mask, bit 0 set
-- or not. Turning bit 0 on gives every page's mask of g the default.
unfoldable pub configured : Shape → ℕ → Partition → ℕ → ℕ → Partition
configured z P x g w =
    let y = set_config x g w in
    cond (turns_on w && not (protects_in z x.configs g)) (fill_masks P y g (default_mask w)) y

abbrev pub config : State → ℕ → Mode → ℕ → ℕ → Rule
config s v mode g w = record {
  refusals = out_of_range g ∷ Refusal.ReservedBits when reserved_set w ∷ Refusal.InvalidMask when not (valid_mask (default_mask w)) ∷ kernel mode (
      level_zero g ∷ above_maximum s g ∷ Refusal.TargetAbove when ltb (active s v) g ∷ Refusal.NotEnabledForPartition when not (enabled_for s g)
      ∷ Refusal.ProtectionsCleared when (protects s g && not (turns_on w))
      ∷ Refusal.DefaultMaskChanged when (protects s g && not (eqb (default_mask w) (default_mask (config_of s g))))
      ∷ Refusal.KernelOnlyExecute when (kernel_only (default_mask w) && mbec_for s g) ∷ []);
  value = 0;
  effect = on_partition s (λ z x. configured z (pages s) x g w);
}

-- secure v mode l word: bit 0 MBEC, bit 1 TLB lock, rest reserved (1); 3; 4 if l >= actor; 6 if l is not enabled on v, or bit 0
-- is set and the partition has no MBEC for the actor. Held per v, actor and l.
abbrev pub secure : State → ℕ → Mode → ℕ → ℕ → Rule
secure s v mode l w = record {
  refusals = out_of_range l ∷ Refusal.ReservedBits when secure_reserved_set w ∷ kernel mode (
      above_maximum s l ∷ Refusal.TargetNotBelow when leb (active s v) l ∷ Refusal.NotEnabledOnProcessor when not (enabled_on s v l)
      ∷ Refusal.NoMbec when (bit w mbec_bit && not (mbec_for s (active s v))) ∷ []);
  value = 0;
  effect = on_vp s v (λ z p. set_secure z p (active_of p) l w);
}

-- flush v mode: 12 if on any processor any level above the actor holds a lock on the actor's level.
unfoldable pub locked : State → ℕ → Bool
locked s l = any 4 (λ w. any 4 (λ t. bit (secure_of (shape s) (vp s w) t l) lock_bit))

abbrev pub flush : State → ℕ → Mode → Rule
flush s v mode = record { refusals = kernel mode (Refusal.TlbLocked when locked s (active s v) ∷ []); value = 0; effect = s }

-- rreg v mode g r; wreg v mode g r x: 1 for r > 31, or CR0 with bit 0 clear for g > 0; 3; 4 if g > actor; 6 if g is not enabled
-- on v; 9 last, to the level that watches (02, request 6). Value of rreg: the register.
abbrev pub watched_by : State → ℕ → ℕ → (Watch → Bool) → Answer × Bool
watched_by s v g asks = let t = watcher (shape s) (vp s v) g asks in (Intercept (level t), ltb t no_level)

abbrev pub of_level : State → ℕ → ℕ → (Watch → Bool) → List (Answer × Bool)
of_level s v g asks =
    above_maximum s g ∷ Refusal.TargetAbove when ltb (active s v) g ∷ Refusal.NotEnabledOnProcessor when not (enabled_on s v g)
    ∷ watched_by s v g asks ∷ []

abbrev pub rreg : State → ℕ → Mode → ℕ → ℕ → Rule
rreg s v mode g r = record {
  refusals = out_of_range g ∷ Refusal.NoSuchRegister when ltb 31 r ∷ kernel mode (of_level s v g (asks_read r));
  value = register_of (shape s) (vp s v) g r;
  effect = s;
}

abbrev pub wreg : State → ℕ → Mode → ℕ → ℕ → ℕ → Rule
wreg s v mode g r x = record {
  refusals = out_of_range g ∷ Refusal.NoSuchRegister when ltb 31 r ∷ Refusal.Cr0InRealMode when (eqb r cr0 && ltb 0 g && not (bit x protected_bit))
      ∷ kernel mode (of_level s v g (asks_write r (register_of (shape s) (vp s v) g r) x));
  value = 0;
  effect = on_vp s v (λ z p. set_register z p g r x);
}

-- cri v mode word: 1 if one of the bits 25..63 is set; 4 at level 0. Sets the actor's own word (02, request 6).
abbrev pub watch_effect : State → ℕ → (Watch → Watch) → State
watch_effect s v change = on_vp s v (λ z p. set_watch z p (active_of p) (change (context z p (active_of p)).watch))

abbrev pub cri : State → ℕ → Mode → ℕ → Rule
cri s v mode word = record {
  refusals = Refusal.ReservedBits when intercept_reserved_set word ∷ kernel mode (Refusal.WatchAtLevelZero when eqb (active s v) 0 ∷ []);
  value = 0;
  effect = watch_effect s v (λ w. with_intercepts w word);
}

-- crm v mode n mask: 1 if n is neither 0 (CR0) nor 4 (CR4); 4 at level 0. Sets the actor's own mask for writes of that register (02, request 6).
abbrev pub crm : State → ℕ → Mode → ℕ → ℕ → Rule
crm s v mode n mask = record {
  refusals = Refusal.NoSuchMask when not (eqb n 0 || eqb n 4) ∷ kernel mode (Refusal.WatchAtLevelZero when eqb (active s v) 0 ∷ []);
  value = 0;
  effect = watch_effect s v (λ w. with_cr_mask w (eqb n 4) mask);
}

-- tpr v mode class; sets the actor's own.
abbrev pub tpr : State → ℕ → Mode → ℕ → Rule
tpr s v mode class = record {
  refusals = Refusal.ClassOutOfRange when ltb 15 class ∷ kernel mode [];
  value = 0;
  effect = on_vp s v (λ z p. set_tpr z p (active_of p) class);
}

-- ack v mode: takes the highest ready vector of the actor, 13 if none or RFLAGS bit 9 is clear; value: the vector.
abbrev pub ack : State → ℕ → Mode → Rule
ack s v mode = let n = highest_ready (context (shape s) (vp s v) (active s v)) in record {
  refusals = kernel mode (Refusal.NoReadyVector when eqb n 0 ∷ Refusal.InterruptFlagClear when not (bit (own s v rflags) interrupt_bit) ∷ []);
  value = n;
  effect = on_vp s v acknowledged;
}

-- int w g vector, from outside, no mode: 1 for vector below 16 or above 255; 3 if g > M; 6 if g is not enabled on w. Value: 1 if
-- entered, else 0.
abbrev pub int : State → ℕ → ℕ → ℕ → Rule
int s w g n = record {
  refusals = Refusal.NoSuchTarget when leb (processors s) w ∷ out_of_range g ∷ Refusal.VectorOutOfRange when (ltb n 16 || ltb 255 n)
      ∷ above_maximum s g ∷ Refusal.NotEnabledOnProcessor when not (enabled_on s w g) ∷ [];
  value = cond (enters (shape s) (vp s w) g n) 1 0;
  effect = on_vp s w (λ z p. interrupted z p g n);
}

-- pstat, vstat, caps v mode: the words of 001. Partition status: enabled set at bit 0, M at 16, MBEC set at 20.
abbrev pub status : State → ℕ → Mode → ℕ → Rule
status s v mode word = record { refusals = kernel mode []; value = word; effect = s }

abbrev pub pstat : State → ℕ → Mode → Rule
pstat s v mode = status s v mode (pack_as partition_status (record {
  enabled_vtl_set = bits 4 (λ l. enabled_for s l);
  maximum_vtl = max_level_of s;
  mbec_enabled_vtl_set = bits 4 (λ l. mbec_for s l);
}))

-- Processor status: active at 0, MBEC active at 4 (some higher level has it on for the active one), enabled set at 16.
abbrev pub vstat : State → ℕ → Mode → Rule
vstat s v mode = status s v mode (pack_as vp_status (record {
  active_vtl = active s v;
  active_mbec_enabled = cond (any 4 (λ t. mbec_on s v t (active s v))) 1 0;
  enabled_vtl_set = bits 4 (λ l. enabled_on s v l);
}))

-- Capabilities: Dr6Shared 63, MbecVtlMask from 47 (level t at 47+t, t from 1 to M), bit 46 is 0 for now.
abbrev pub caps : State → ℕ → Mode → Rule
caps s v mode = status s v mode (pack_as capabilities (record {
  deny_lower_vtl_startup = 0;
  mbec_vtl_mask = bits 4 (λ t. ltb 0 t && is_level (shape s) t);
  dr6_shared = cond (shape s).dr6_shared 1 0;
}))
