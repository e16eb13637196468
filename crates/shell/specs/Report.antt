-- What is on record of the failures of a run. Assumes nothing.
use Rattle.std.specs.Prelude.{Bool, true, false, ℕ}
use Rattle.shell.specs.declared.Outcome.{Outcome}
use Rattle.shell.specs.declared.Outcome.TheVariants as outcome

-- Nothing failed.
abbrev pub is_done : Outcome → Bool
is_done outcome.Done = true
is_done outcome.Failed = false
is_done outcome.Unread = false

-- The status of a program, which is 0 only where nothing failed.
abbrev pub status_of : Outcome → ℕ
status_of outcome.Done = 0
status_of outcome.Failed = 1
status_of outcome.Unread = 141
