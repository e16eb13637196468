-- A name says its refusal, so no two refusals share one; and what one test says of all names holds of each. Assumes nothing.
use Rattle.std.specs.Prelude.{Some}
use mathlib.Core.Bool.{Bool, true, false, cond}
use mathlib.Core.List.{List, [], ◌∷◌}
use mathlib.Core.Path.{◌≡◌, refl, sym, ap, ◌∙◌}
use Prim.Native.Nat.{ℕ}
use native.Mathlib.Omega.{arith}
use Rattle.decimal.proofs.DigitReading.{and_parts}
use Rattle.model.specs.declared.answer.Refusal.TheVariants as refusal
use Rattle.reason.specs.ReasonClaims.{NameSays, OneName}
use Rattle.reason.specs.ReasonNames.{Refusal, named_among, reason_name, refusals}
use Rattle.script.proofs.Same.{every}
use Rattle.script.specs.Bytes.{same}

-- Name by name: the first refusal of the list that has it.
pub name-says : NameSays
unfolding named_among reason_name same
name-says refusal.LineTooLong = refl
name-says refusal.UnknownWord = refl
name-says refusal.WrongFieldCount = refl
name-says refusal.NotANumber = refl
name-says refusal.NotWellFormed = refl
name-says refusal.NoSuchProcessor = refl
name-says refusal.NoSuchTarget = refl
name-says refusal.NoSuchMode = refl
name-says refusal.LevelOutOfRange = refl
name-says refusal.MbecOutOfRange = refl
name-says refusal.LengthOutOfRange = refl
name-says refusal.ClassOutOfRange = refl
name-says refusal.VectorOutOfRange = refl
name-says refusal.NoSuchRegister = refl
name-says refusal.NoSuchPage = refl
name-says refusal.InvalidMask = refl
name-says refusal.ReservedBits = refl
name-says refusal.Cr0InRealMode = refl
name-says refusal.NoSuchMask = refl
name-says refusal.UserMode = refl
name-says refusal.CallInRealMode = refl
name-says refusal.RcxNotZero = refl
name-says refusal.NoHigherLevel = refl
name-says refusal.ReturnAtLevelZero = refl
name-says refusal.RcxAboveOne = refl
name-says refusal.LevelZero = refl
name-says refusal.AboveMaximum = refl
name-says refusal.TargetNotAbove = refl
name-says refusal.TargetGuarded = refl
name-says refusal.TargetAbove = refl
name-says refusal.TargetNotBelow = refl
name-says refusal.ProtectAtLevelZero = refl
name-says refusal.WatchAtLevelZero = refl
name-says refusal.EnabledForPartition = refl
name-says refusal.EnabledOnProcessor = refl
name-says refusal.NotEnabledForPartition = refl
name-says refusal.NotEnabledOnProcessor = refl
name-says refusal.ProtectionsOff = refl
name-says refusal.NoMbec = refl
name-says refusal.ProtectionsCleared = refl
name-says refusal.DefaultMaskChanged = refl
name-says refusal.KernelOnlyExecute = refl
name-says refusal.NoReceiver = refl
name-says refusal.HostDenies = refl
name-says refusal.TlbLocked = refl
name-says refusal.NoReadyVector = refl
name-says refusal.InterruptFlagClear = refl

pub one_name : OneName
one_name a b e =
    let both : Some a ≡ Some b = sym (name-says a) ∙ ap (named_among refusals) e ∙ name-says b in
    cc

-- What a test says of every refusal of a list holds of each that a name says.
found-passes : (test : Refusal → Bool) (among : List Refusal) (name : List ℕ) (r : Refusal) → every test among ≡ true
    → named_among among name ≡ Some r → test r ≡ true
unfolding named_among
found-passes test [] name r h e = absurd (let z : ◌≡◌ {A = ℕ} 0 1 = cc in omega arith)
found-passes test (first ∷ more) name r h e =
    let (here, later) = and_parts (test first) (every test more) h in
    go (same name (reason_name first)) e here (found-passes test more name r later)
  where
    go : (t : Bool) → cond t (Some first) (named_among more name) ≡ Some r → test first ≡ true
        → (named_among more name ≡ Some r → test r ≡ true) → test r ≡ true
    go true k here later = let e : first ≡ r = cc in rw (← e) here
    go false k here later = later k

pub each-name : (test : Refusal → Bool) → every test refusals ≡ true → (r : Refusal) → test r ≡ true
each-name test h r = found-passes test refusals (reason_name r) r h (name-says r)
