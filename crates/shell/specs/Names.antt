-- The names that a program is given, and how much of a buffer was read. Assumes nothing.
use Rattle.std.specs.Prelude.{Bool, false, List, [], ◌∷◌, ◌≡◌, ℕ, ◌<◌, ◌≤◌, Option, Result, Ok, Err, eqb, length, take}
use Rattle.std.specs.Io.KnownBytes.{Consumes, IsAtEnd}

-- The byte - alone stands for standard input.
abbrev pub is_input : List ℕ → Bool
is_input [] = false
is_input (byte ∷ []) = eqb byte 45
is_input (byte ∷ next ∷ more) = false

-- No more bytes were read than the buffer has. How many the system decides.
abbrev pub Within : {E : Type 0} → Result ℕ E → List ℕ → Type 0
Within (Ok n) chunk = (n ≤ length chunk) × (n ≡ length (take n chunk))
Within (Err e) chunk = Unit {0}

-- What was read is gone from the bytes that the input has left, where they are known. No bytes were read only at the end of the input.
abbrev pub Taken : {E : Type 0} → Option (List ℕ) → Option (List ℕ) → Result ℕ E → List ℕ → Type 0
Taken before after (Ok n) chunk = Consumes before after (take n chunk) × (n ≡ 0 → 0 < length chunk → IsAtEnd after)
Taken before after (Err e) chunk = Unit {0}

-- The buffer was filled with bytes that the input has no longer, where they are known, or the input has ended.
abbrev pub Filled : {E : Type 0} → Option (List ℕ) → Option (List ℕ) → Result ℕ E → List ℕ → Type 0
Filled before after (Ok n) chunk = Consumes before after (take n chunk) × (n < length chunk → IsAtEnd after)
Filled before after (Err e) chunk = Unit {0}
