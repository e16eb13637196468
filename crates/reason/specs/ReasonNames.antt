-- The name of each refusal: the condition that it stands for (01, "Answer numbers"; model/src/answer.rt says each in words). No two share
-- a name, and a name has no tab and no line feed. Assumes nothing.
use Rattle.std.specs.Prelude.{cond, List, [], ◌∷◌, ℕ, None, Option, Some}
pub use Rattle.model.specs.declared.answer.Refusal.{Refusal}
use Rattle.model.specs.declared.answer.Refusal.TheVariants as refusal
use Rattle.script.specs.Bytes.{bytes, same}

unfoldable pub reason_name : Refusal → List ℕ
-- what is wrong with a line's form
reason_name refusal.LineTooLong = bytes "too-long"
reason_name refusal.UnknownWord = bytes "unknown-word"
reason_name refusal.WrongFieldCount = bytes "field-count"
reason_name refusal.NotANumber = bytes "not-a-number"
-- answer 1 besides
reason_name refusal.NotWellFormed = bytes "state-not-well-formed"
reason_name refusal.NoSuchProcessor = bytes "no-such-processor"
reason_name refusal.NoSuchTarget = bytes "no-such-target"
reason_name refusal.NoSuchMode = bytes "mode-above-1"
reason_name refusal.LevelOutOfRange = bytes "level-above-15"
reason_name refusal.MbecOutOfRange = bytes "mbec-flag-above-1"
reason_name refusal.LengthOutOfRange = bytes "length-not-1-to-15"
reason_name refusal.ClassOutOfRange = bytes "class-above-15"
reason_name refusal.VectorOutOfRange = bytes "vector-not-16-to-255"
reason_name refusal.NoSuchRegister = bytes "register-above-31"
reason_name refusal.NoSuchPage = bytes "no-such-page"
reason_name refusal.InvalidMask = bytes "mask-invalid"
reason_name refusal.ReservedBits = bytes "reserved-bit-set"
reason_name refusal.Cr0InRealMode = bytes "cr0-bit-0-clear"
reason_name refusal.NoSuchMask = bytes "mask-not-cr0-or-cr4"
-- 2
reason_name refusal.UserMode = bytes "user-mode"
reason_name refusal.CallInRealMode = bytes "call-in-real-mode"
reason_name refusal.RcxNotZero = bytes "rcx-not-zero"
reason_name refusal.NoHigherLevel = bytes "no-higher-level"
reason_name refusal.ReturnAtLevelZero = bytes "return-at-level-0"
reason_name refusal.RcxAboveOne = bytes "rcx-above-1"
-- 3
reason_name refusal.LevelZero = bytes "target-level-0"
reason_name refusal.AboveMaximum = bytes "level-above-maximum"
-- 4
reason_name refusal.TargetNotAbove = bytes "target-not-above-actor"
reason_name refusal.TargetGuarded = bytes "target-guarded"
reason_name refusal.TargetAbove = bytes "target-above-actor"
reason_name refusal.TargetNotBelow = bytes "target-not-below-actor"
reason_name refusal.ProtectAtLevelZero = bytes "protect-at-level-0"
reason_name refusal.WatchAtLevelZero = bytes "watch-at-level-0"
-- 5
reason_name refusal.EnabledForPartition = bytes "enabled-for-partition"
reason_name refusal.EnabledOnProcessor = bytes "enabled-on-processor"
-- 6
reason_name refusal.NotEnabledForPartition = bytes "not-enabled-for-partition"
reason_name refusal.NotEnabledOnProcessor = bytes "not-enabled-on-processor"
reason_name refusal.ProtectionsOff = bytes "protections-off"
reason_name refusal.NoMbec = bytes "no-mbec"
-- 7
reason_name refusal.ProtectionsCleared = bytes "protections-turned-off"
reason_name refusal.DefaultMaskChanged = bytes "default-mask-changed"
-- 8
reason_name refusal.KernelOnlyExecute = bytes "kmx-without-umx"
-- 10 and 11: an access that is denied has the fields of its sheet instead
reason_name refusal.NoReceiver = bytes "no-receiver"
reason_name refusal.HostDenies = bytes "host-denies"
-- 12
reason_name refusal.TlbLocked = bytes "flush-held"
-- 13
reason_name refusal.NoReadyVector = bytes "no-vector-ready"
reason_name refusal.InterruptFlagClear = bytes "interrupt-flag-clear"

-- All refusals.
abbrev pub refusals : List Refusal
refusals =
    refusal.LineTooLong ∷ refusal.UnknownWord ∷ refusal.WrongFieldCount ∷ refusal.NotANumber ∷ refusal.NotWellFormed ∷
    refusal.NoSuchProcessor ∷ refusal.NoSuchTarget ∷ refusal.NoSuchMode ∷ refusal.LevelOutOfRange ∷
    refusal.MbecOutOfRange ∷ refusal.LengthOutOfRange ∷ refusal.ClassOutOfRange ∷ refusal.VectorOutOfRange ∷
    refusal.NoSuchRegister ∷ refusal.NoSuchPage ∷ refusal.InvalidMask ∷ refusal.ReservedBits ∷ refusal.Cr0InRealMode ∷
    refusal.NoSuchMask ∷ refusal.UserMode ∷ refusal.CallInRealMode ∷ refusal.RcxNotZero ∷ refusal.NoHigherLevel ∷ refusal.ReturnAtLevelZero ∷
    refusal.RcxAboveOne ∷ refusal.LevelZero ∷ refusal.AboveMaximum ∷ refusal.TargetNotAbove ∷ refusal.TargetGuarded ∷ refusal.TargetAbove ∷
    refusal.TargetNotBelow ∷ refusal.ProtectAtLevelZero ∷ refusal.WatchAtLevelZero ∷ refusal.EnabledForPartition ∷ refusal.EnabledOnProcessor ∷
    refusal.NotEnabledForPartition ∷ refusal.NotEnabledOnProcessor ∷ refusal.ProtectionsOff ∷ refusal.NoMbec ∷
    refusal.ProtectionsCleared ∷ refusal.DefaultMaskChanged ∷ refusal.KernelOnlyExecute ∷ refusal.NoReceiver ∷
    refusal.HostDenies ∷ refusal.TlbLocked ∷ refusal.NoReadyVector ∷ refusal.InterruptFlagClear ∷ []

-- The refusal that a name says, of some: the first that has it.
unfoldable pub named_among : List Refusal → List ℕ → Option Refusal
named_among [] name = None
named_among (r ∷ more) name = cond (same name (reason_name r)) (Some r) (named_among more name)
