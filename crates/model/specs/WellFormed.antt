-- Well-formed states (01, "Well formed"), clause by clause. Any other state gets answer 1. Assumes nothing.
use Rattle.std.specs.Prelude.{Bool, not, ◌&&◌, ◌||◌, [], ◌∷◌, ℕ, suc, leb, ltb, eqb, length}
use Rattle.word.specs.Field.{field, bit}
use Rattle.model.specs.Arrays.{number_at}
use Rattle.model.specs.Bounded.{every, all_of}
use Rattle.model.specs.Masks.{valid_mask, kernel_only, default_mask, turns_on, reserved_set, secure_reserved_set}
use Rattle.model.specs.Registers.{cr0, protected_bit, private_of}
use Rattle.model.specs.Watching.{intercept_reserved_set}
use Rattle.model.specs.State.{State, Context, Control, Partition, Shape, VirtualProcessor, in_range, processors, max_level_of, pages, partition, in_set, is_processor, shape, vp, context, active_of, enabled_at, enabled_for, mbec_for, config_of, mask_of, mbec_bit}

-- If a then b.
infix 20 ◌implies◌
abbrev pub ◌implies◌ : Bool → Bool → Bool
a implies b = not a || b

-- V, M, P in range and exactly P words lent.
unfoldable pub well_sized : State → Bool
well_sized s = in_range (processors s) (max_level_of s) (pages s) && eqb (length s.words) (pages s)

-- An enabled level above 0 was entered from a lower enabled one (from 0 if its reason is 0), with reason 0..2. `from_on` tells
-- whether the level that its record names is enabled on the processor.
unfoldable pub well_entered : ℕ → Bool → Control → Bool
well_entered l from_on k = all_of (
    ltb k.from.0 l
    ∷ from_on
    ∷ (eqb k.reason 0 implies eqb k.from.0 0)
    ∷ leb k.reason 2
    ∷ [])

-- Reason, the level left, RAX and RCX are 0 in the control record of a level that is not enabled (02, request 2).
unfoldable pub never_entered : Control → Bool
never_entered k = all_of (eqb k.reason 0 ∷ eqb k.from.0 0 ∷ eqb k.rax 0 ∷ eqb k.rcx 0 ∷ [])

-- What a processor holds of level l, where the partition has the level enabled as `on` tells, the processor as `enabled` does,
-- and the partition has MBEC for it as `mbec` tells. A processor's enabled levels are within the partition's; its MBEC only
-- where the partition has it for the setting level. TPR in range; pending vectors only 16..255 (0..15 are the low 16 bits of
-- the first word) and only at enabled levels. A level above 0 that is not enabled was never entered. Bits
-- 25..63 of the intercept control word of a level above 0 are 0 (02, request 6).
unfoldable pub well_formed_context : ℕ → Bool → Bool → Bool → Bool → Context → Bool
well_formed_context l on enabled mbec from_on c = all_of (
    (enabled implies on)
    ∷ ((ltb 0 l && enabled) implies well_entered l from_on c.control)
    ∷ every l (λ j. not (secure_reserved_set (number_at 4 c.secure j)) && (bit (number_at 4 c.secure j) mbec_bit implies mbec))
    ∷ leb c.tpr 15
    ∷ eqb (field 0 16 (number_at 4 c.pending 0)) 0
    ∷ (enabled || every 4 (λ i. eqb (number_at 4 c.pending i) 0))
    ∷ ((ltb 0 l && not enabled) implies never_entered c.control)
    ∷ (ltb 0 l implies not (intercept_reserved_set c.watch.intercepts))
    ∷ [])

-- A processor, where the partition holds x: level 0 is enabled everywhere; the active level is enabled. (That an array of four
-- has four entries holds of all that code lends; a list here may have any number of them.)
unfoldable pub well_formed_vp : Shape → Partition → VirtualProcessor → Bool
well_formed_vp z x p = all_of (
    eqb (length p.contexts) 4
    ∷ enabled_at z p 0
    ∷ enabled_at z p (active_of p)
    ∷ every 4 (λ l. let c = context z p l in
    well_formed_context l (in_set z x.enabled l) (enabled_at z p l) (in_set z x.mbec l) (enabled_at z p c.control.from.0) c)
    ∷ [])

-- What the partition holds of a level above 0 (its masks, its word, whether it is enabled and whether it has MBEC): all masks
-- valid, the default mask too; reserved configuration bits 0; protections and MBEC only for enabled levels; no page or default
-- mask with KMX and no UMX where the partition has MBEC for the level and protections are on.
abbrev pub well_formed_level_by : (ℕ → ℕ) → ℕ → Bool → Bool → Bool
well_formed_level_by mask word enabled mbec = all_of (
    every 64 (λ p. valid_mask (mask p))
    ∷ valid_mask (default_mask word)
    ∷ not (reserved_set word)
    ∷ (turns_on word implies enabled)
    ∷ (mbec implies enabled)
    ∷ ((mbec && turns_on word) implies (not (kernel_only (default_mask word)) && every 64 (λ p. not (kernel_only (mask p)))))
    ∷ [])

unfoldable pub well_formed_level : State → ℕ → Bool
well_formed_level s l = well_formed_level_by (mask_of s l) (config_of s l) (enabled_for s l) (mbec_for s l)

-- All that reads no private register: each processor and each level above 0, the host's mask, and no MBEC for level 0.
unfoldable pub well_formed_parts : State → Bool
well_formed_parts s = all_of (
    every 4 (λ v. is_processor s v implies well_formed_vp (shape s) (partition s) (vp s v))
    ∷ every 3 (λ i. well_formed_level s (suc i))
    ∷ valid_mask s.machine.host_mask
    ∷ not (mbec_for s 0)
    ∷ [])

-- An enabled level above 0 has CR0 bit 0 set: no real mode there.
unfoldable pub well_moded_vp : Shape → VirtualProcessor → Bool
well_moded_vp z p = every 4 (λ l. (ltb 0 l && enabled_at z p l) implies bit (private_of z p l cr0) protected_bit)

unfoldable pub well_moded : State → Bool
well_moded s = every 4 (λ v. well_moded_vp (shape s) (vp s v))

unfoldable pub well_formed : State → Bool
well_formed s = well_sized s && well_formed_parts s && well_moded s
