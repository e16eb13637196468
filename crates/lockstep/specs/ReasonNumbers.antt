-- The numbers of the reasons for which a line gets its answer (01, "Answer numbers", has a number for each answer; here each condition has one
-- of its own). A number once given stays: a condition that is added gets the next number, wherever it stands in the other tables. No two
-- refusals have one number (`reason-one` of proofs/OneReasonNumber.antt). Assumes nothing.
use Rattle.std.specs.Prelude.{ℕ}
use Rattle.model.specs.declared.answer.Answer.{Answer}
use Rattle.model.specs.declared.answer.Answer.TheVariants.{Done, Refused, Intercept}
use Rattle.model.specs.declared.answer.Refusal.{Refusal}
use Rattle.model.specs.declared.answer.Refusal.TheVariants as refusal

-- What is no refusal of the model has a number below 16: the event took place, or is intercepted; a slice is too short; the numbers of a
-- first line are not admissible.
abbrev pub no_reason : ℕ
no_reason = 0

abbrev pub intercepted : ℕ
intercepted = 1

abbrev pub short_slice : ℕ
short_slice = 2

abbrev pub not_admissible : ℕ
not_admissible = 3

-- The number of each refusal. model/src/answer.rt says which condition each is.
abbrev pub refusal_reason : Refusal → ℕ
refusal_reason refusal.LineTooLong = 16
refusal_reason refusal.UnknownWord = 17
refusal_reason refusal.WrongFieldCount = 18
refusal_reason refusal.NotANumber = 19
refusal_reason refusal.NotWellFormed = 20
refusal_reason refusal.NoSuchProcessor = 21
refusal_reason refusal.NoSuchTarget = 22
refusal_reason refusal.NoSuchMode = 23
refusal_reason refusal.LevelOutOfRange = 24
refusal_reason refusal.MbecOutOfRange = 25
refusal_reason refusal.LengthOutOfRange = 26
refusal_reason refusal.ClassOutOfRange = 27
refusal_reason refusal.VectorOutOfRange = 28
refusal_reason refusal.NoSuchRegister = 29
refusal_reason refusal.NoSuchPage = 30
refusal_reason refusal.InvalidMask = 31
refusal_reason refusal.ReservedBits = 32
refusal_reason refusal.Cr0InRealMode = 33
refusal_reason refusal.UserMode = 34
refusal_reason refusal.CallInRealMode = 35
refusal_reason refusal.RcxNotZero = 36
refusal_reason refusal.NoHigherLevel = 37
refusal_reason refusal.ReturnAtLevelZero = 38
refusal_reason refusal.RcxAboveOne = 39
refusal_reason refusal.LevelZero = 40
refusal_reason refusal.AboveMaximum = 41
refusal_reason refusal.TargetNotAbove = 42
refusal_reason refusal.TargetAbove = 43
refusal_reason refusal.TargetNotBelow = 44
refusal_reason refusal.ProtectAtLevelZero = 45
refusal_reason refusal.EnabledForPartition = 46
refusal_reason refusal.EnabledOnProcessor = 47
refusal_reason refusal.NotEnabledForPartition = 48
refusal_reason refusal.NotEnabledOnProcessor = 49
refusal_reason refusal.ProtectionsOff = 50
refusal_reason refusal.NoMbec = 51
refusal_reason refusal.ProtectionsCleared = 52
refusal_reason refusal.DefaultMaskChanged = 53
refusal_reason refusal.KernelOnlyExecute = 54
refusal_reason refusal.NoReceiver = 55
refusal_reason refusal.HostDenies = 56
refusal_reason refusal.TlbLocked = 57
refusal_reason refusal.NoReadyVector = 58
refusal_reason refusal.InterruptFlagClear = 59
refusal_reason refusal.TargetGuarded = 60
refusal_reason refusal.NoSuchMask = 61
refusal_reason refusal.WatchAtLevelZero = 62

-- The number of the reason for an answer.
abbrev pub reason_number : Answer → ℕ
reason_number (Done x) = no_reason
reason_number (Refused r) = refusal_reason r
reason_number (Intercept l) = intercepted
