-- However a script is cut into chunks, what is written of them is its listing with reasons. Assumes nothing.
use Rattle.std.specs.Prelude.{◌≡◌, ℕ, List, [], ◌∷◌, ◌++◌}
use Rattle.reason.specs.ReasonedListing.{reasoned}
use Rattle.session.specs.Session.{Progress, consumed, first}
use Rattle.reasoned.specs.ReasonedSession.{last_told, told}

-- Two chunks, one after the other, are one: how far the session comes, and what is written.
pub record InTwo (p : Progress) (one two : List ℕ) : Type 0 where
  pub progress : (consumed p (one ++ two)).progress ≡ (consumed (consumed p one).progress two).progress
  pub text : told p (one ++ two) ≡ told p one ++ told (consumed p one).progress two

abbrev pub CutInTwo : Type 0
CutInTwo = (p : Progress) (one two : List ℕ) → InTwo p one two

-- The chunks of a script put together, and what is written of them and at the end.
abbrev pub joined : List (List ℕ) → List ℕ
joined [] = []
joined (chunk ∷ more) = chunk ++ joined more

unfoldable pub told_all : Progress → List (List ℕ) → List ℕ
told_all p [] = last_told p
told_all p (chunk ∷ more) = told p chunk ++ told_all (consumed p chunk).progress more

-- What a fresh session writes of a whole script, at once and in chunks.
abbrev pub ToldWhole : Type 0
ToldWhole = (script : List ℕ) → told (first []) script ++ last_told (consumed (first []) script).progress ≡ reasoned script

abbrev pub ReasonedWhole : Type 0
ReasonedWhole = (chunks : List (List ℕ)) → told_all (first []) chunks ≡ reasoned (joined chunks)
