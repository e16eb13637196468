-- The answers and their numbers (01, "Answer numbers"). Assumes nothing.
use Rattle.std.specs.Prelude.{Bool, cond, List, [], ◌∷◌, ℕ}
pub use Rattle.model.specs.declared.answer.Answer.{Answer}
pub use Rattle.model.specs.declared.answer.Answer.TheVariants.{Done, Refused, Intercept}
pub use Rattle.model.specs.declared.answer.Refusal.{Refusal}
use Rattle.model.specs.declared.answer.Refusal.TheVariants as refusal

-- The number of each refusal. model/src/answer.rt says which condition each is.
abbrev pub refusal_number : Refusal → ℕ
-- 1: malformed line, field out of range, state not well formed
refusal_number refusal.LineTooLong = 1
refusal_number refusal.UnknownWord = 1
refusal_number refusal.WrongFieldCount = 1
refusal_number refusal.NotANumber = 1
refusal_number refusal.NotWellFormed = 1
refusal_number refusal.NoSuchProcessor = 1
refusal_number refusal.NoSuchTarget = 1
refusal_number refusal.NoSuchMode = 1
refusal_number refusal.LevelOutOfRange = 1
refusal_number refusal.MbecOutOfRange = 1
refusal_number refusal.LengthOutOfRange = 1
refusal_number refusal.ClassOutOfRange = 1
refusal_number refusal.VectorOutOfRange = 1
refusal_number refusal.NoSuchRegister = 1
refusal_number refusal.NoSuchPage = 1
refusal_number refusal.InvalidMask = 1
refusal_number refusal.ReservedBits = 1
refusal_number refusal.Cr0InRealMode = 1
refusal_number refusal.NoSuchMask = 1
-- 2: #UD: user mode for anything but read, write, fetch; or a call or return that the rules fault
refusal_number refusal.UserMode = 2
refusal_number refusal.CallInRealMode = 2
refusal_number refusal.RcxNotZero = 2
refusal_number refusal.NoHigherLevel = 2
refusal_number refusal.ReturnAtLevelZero = 2
refusal_number refusal.RcxAboveOne = 2
-- 3: target level above M, or 0 where a level above 0 is needed
refusal_number refusal.LevelZero = 3
refusal_number refusal.AboveMaximum = 3
-- 4: the acting level has no right to it
refusal_number refusal.TargetNotAbove = 4
refusal_number refusal.TargetGuarded = 4
refusal_number refusal.TargetAbove = 4
refusal_number refusal.TargetNotBelow = 4
refusal_number refusal.ProtectAtLevelZero = 4
refusal_number refusal.WatchAtLevelZero = 4
-- 5: already enabled
refusal_number refusal.EnabledForPartition = 5
refusal_number refusal.EnabledOnProcessor = 5
-- 6: target not enabled, protections not on, or MBEC not on
refusal_number refusal.NotEnabledForPartition = 6
refusal_number refusal.NotEnabledOnProcessor = 6
refusal_number refusal.ProtectionsOff = 6
refusal_number refusal.NoMbec = 6
-- 7: write-once field changed
refusal_number refusal.ProtectionsCleared = 7
refusal_number refusal.DefaultMaskChanged = 7
-- 8: KMX without UMX where the partition has MBEC for the level
refusal_number refusal.KernelOnlyExecute = 8
-- 10: a level denies, but no denying level is enabled on this processor
refusal_number refusal.NoReceiver = 10
-- 11: no level denies, the host mask does
refusal_number refusal.HostDenies = 11
-- 12: flush held by a TLB lock
refusal_number refusal.TlbLocked = 12
-- 13: ack with no vector ready or RFLAGS bit 9 clear
refusal_number refusal.NoReadyVector = 13
refusal_number refusal.InterruptFlagClear = 13

-- 0 is done, 9 an intercept.
abbrev pub number_of : Answer → ℕ
number_of (Done x) = 0
number_of (Refused r) = refusal_number r
number_of (Intercept l) = 9

-- The value of an intercept is the receiving level; a refusal has value 0.
abbrev pub value_of : Answer → ℕ
value_of (Done x) = x
value_of (Refused r) = 0
value_of (Intercept l) = l.0

-- A refusal and the condition on which it is given.
infix 68 ◌when◌
abbrev pub ◌when◌ : Refusal → Bool → Answer × Bool
r when b = (Refused r, b)

-- The first answer whose condition applies, or else the last. The conditions of each event stand in the order of their
-- numbers, so that where several apply the smallest number is given.
unfoldable pub first_of : List (Answer × Bool) → Answer → Answer
first_of [] a = a
first_of (c ∷ cs) a = cond c.1 c.0 (first_of cs a)
