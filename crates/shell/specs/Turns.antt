-- What a session leaves of a chunk, and all that is written of an input. Assumes nothing.
use Rattle.std.specs.Prelude.{◌≡◌, ◌≤◌, List, [], Option, ℕ, ◌++◌, length, true}
use Rattle.std.specs.Io.KnownBytes.{Consumes}
use Rattle.session.specs.Calls.{Reached}
use Rattle.session.specs.Session.{Progress, consumed, is_stopped}

-- A session that was at p has used an input, and is at q. With whatever follows, it leaves and writes from there what it would from p.
pub record Stands (p : Progress) (input : List ℕ) (q : Progress) : Type 0 where
  pub progress : q ≡ (consumed p input).progress
  pub reached : Reached p input (consumed p input).text q

-- All that is written of an input: what is told of its pieces, and its end.
abbrev pub whole : (Progress → List ℕ → List ℕ) → (Progress → List ℕ) → Progress → List ℕ → List ℕ
whole told ending p script = told p script ++ ending (consumed p script).progress

-- What was read of an input by a session that was at p: some bytes, and then at most as many more as a buffer holds. If the session had stopped after the
-- first of these, nothing was read at all: so beyond a buffer's bytes nothing is read of what follows a refused first line.
pub record ReadWhileOpen (p : Progress) (had has : Option (List ℕ)) : Type 0 where
  pub before : List ℕ
  pub last : List ℕ
  pub taken : Consumes had has (before ++ last)
  pub once : length last ≤ 65536
  pub open_before : is_stopped (consumed p before).progress ≡ true → before ++ last ≡ []
