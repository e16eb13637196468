-- No two refusals have one number: the refusal is read back from its number in the table of all, in the order of their numbers. Assumes
-- nothing.
use mathlib.Core.List.{List, [], ◌∷◌}
use mathlib.Core.Path.{◌≡◌, refl, sym, ap, ◌∙◌}
use Prim.Native.Nat.{ℕ, ◌-◌}
use lib.ListN.{get_or}
use Rattle.model.specs.declared.answer.Refusal.{Refusal}
use Rattle.model.specs.declared.answer.Refusal.TheVariants as refusal
use Rattle.lockstep.specs.ReasonNumbers.{refusal_reason}

-- All refusals, from number 16 on.
abbrev refusals : List Refusal
refusals =
    refusal.LineTooLong ∷
    refusal.UnknownWord ∷
    refusal.WrongFieldCount ∷
    refusal.NotANumber ∷
    refusal.NotWellFormed ∷
    refusal.NoSuchProcessor ∷
    refusal.NoSuchTarget ∷
    refusal.NoSuchMode ∷
    refusal.LevelOutOfRange ∷
    refusal.MbecOutOfRange ∷
    refusal.LengthOutOfRange ∷
    refusal.ClassOutOfRange ∷
    refusal.VectorOutOfRange ∷
    refusal.NoSuchRegister ∷
    refusal.NoSuchPage ∷
    refusal.InvalidMask ∷
    refusal.ReservedBits ∷
    refusal.Cr0InRealMode ∷
    refusal.UserMode ∷
    refusal.CallInRealMode ∷
    refusal.RcxNotZero ∷
    refusal.NoHigherLevel ∷
    refusal.ReturnAtLevelZero ∷
    refusal.RcxAboveOne ∷
    refusal.LevelZero ∷
    refusal.AboveMaximum ∷
    refusal.TargetNotAbove ∷
    refusal.TargetAbove ∷
    refusal.TargetNotBelow ∷
    refusal.ProtectAtLevelZero ∷
    refusal.EnabledForPartition ∷
    refusal.EnabledOnProcessor ∷
    refusal.NotEnabledForPartition ∷
    refusal.NotEnabledOnProcessor ∷
    refusal.ProtectionsOff ∷
    refusal.NoMbec ∷
    refusal.ProtectionsCleared ∷
    refusal.DefaultMaskChanged ∷
    refusal.KernelOnlyExecute ∷
    refusal.NoReceiver ∷
    refusal.HostDenies ∷
    refusal.TlbLocked ∷
    refusal.NoReadyVector ∷
    refusal.InterruptFlagClear ∷
    refusal.TargetGuarded ∷
    refusal.NoSuchMask ∷
    refusal.WatchAtLevelZero ∷
    []

abbrev read_back : ℕ → Refusal
read_back n = get_or refusals (n - 16) refusal.LineTooLong

read_back_lem : (r : Refusal) → read_back (refusal_reason r) ≡ r
read_back_lem refusal.LineTooLong = refl
read_back_lem refusal.UnknownWord = refl
read_back_lem refusal.WrongFieldCount = refl
read_back_lem refusal.NotANumber = refl
read_back_lem refusal.NotWellFormed = refl
read_back_lem refusal.NoSuchProcessor = refl
read_back_lem refusal.NoSuchTarget = refl
read_back_lem refusal.NoSuchMode = refl
read_back_lem refusal.LevelOutOfRange = refl
read_back_lem refusal.MbecOutOfRange = refl
read_back_lem refusal.LengthOutOfRange = refl
read_back_lem refusal.ClassOutOfRange = refl
read_back_lem refusal.VectorOutOfRange = refl
read_back_lem refusal.NoSuchRegister = refl
read_back_lem refusal.NoSuchPage = refl
read_back_lem refusal.InvalidMask = refl
read_back_lem refusal.ReservedBits = refl
read_back_lem refusal.Cr0InRealMode = refl
read_back_lem refusal.UserMode = refl
read_back_lem refusal.CallInRealMode = refl
read_back_lem refusal.RcxNotZero = refl
read_back_lem refusal.NoHigherLevel = refl
read_back_lem refusal.ReturnAtLevelZero = refl
read_back_lem refusal.RcxAboveOne = refl
read_back_lem refusal.LevelZero = refl
read_back_lem refusal.AboveMaximum = refl
read_back_lem refusal.TargetNotAbove = refl
read_back_lem refusal.TargetAbove = refl
read_back_lem refusal.TargetNotBelow = refl
read_back_lem refusal.ProtectAtLevelZero = refl
read_back_lem refusal.EnabledForPartition = refl
read_back_lem refusal.EnabledOnProcessor = refl
read_back_lem refusal.NotEnabledForPartition = refl
read_back_lem refusal.NotEnabledOnProcessor = refl
read_back_lem refusal.ProtectionsOff = refl
read_back_lem refusal.NoMbec = refl
read_back_lem refusal.ProtectionsCleared = refl
read_back_lem refusal.DefaultMaskChanged = refl
read_back_lem refusal.KernelOnlyExecute = refl
read_back_lem refusal.NoReceiver = refl
read_back_lem refusal.HostDenies = refl
read_back_lem refusal.TlbLocked = refl
read_back_lem refusal.NoReadyVector = refl
read_back_lem refusal.InterruptFlagClear = refl
read_back_lem refusal.TargetGuarded = refl
read_back_lem refusal.NoSuchMask = refl
read_back_lem refusal.WatchAtLevelZero = refl

pub reason-one : (r r' : Refusal) → refusal_reason r ≡ refusal_reason r' → r ≡ r'
reason-one r r' e = sym (read_back_lem r) ∙ ap read_back e ∙ read_back_lem r'
