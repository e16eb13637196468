-- `entry::is_waiting` meets its contract: a vector is looked for only at an enabled level above the active one. Assumes nothing.
use Rattle.model.proofs.Searches.{some-above}
use Rattle.entry.proofs.is_waiting.Goals as goal

pub returns-then-is_above : goal.returns-then-is_above
returns-then-is_above c = rw (c.is_some.ensures, c.highest_ready.ensures, ← c.is_above.ensures, c.if-is_above.true) (some-above _)
