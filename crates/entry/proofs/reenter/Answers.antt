-- `entry::reenter` meets its contract: the level that waits is entered. Assumes nothing.
use Rattle.std.proofs.Common.{sym, ◌∙◌}
use Rattle.model.specs.Entry.{reentered}
use Rattle.entry.proofs.LevelSearches.{waited, none-waited}
use Rattle.entry.proofs.reenter.Goals as goal

pub returns-in-Some : goal.returns-in-Some
unfolding reentered
returns-in-Some c =
    let w = waited _ (sym c.waiting.ensures ∙ c.in-Some.is) in
    rw (c.enter.ensures, ← w.1, w.0)

pub returns-in_default : goal.returns-in_default
unfolding reentered
returns-in_default c = rw (none-waited _ (sym c.waiting.ensures ∙ c.in_default.is))
