-- `set::level_count` meets its contract: by its test. Assumes nothing.
use borrow.Author.Tests.{le-ltb, lt-ltb}
use Rattle.model.specs.State.{top}
use Rattle.model.proofs.set.level_count.Goals as goal

pub returns-then-top-lt4 : goal.returns-then-top-lt4
unfolding top
returns-then-top-lt4 c = rw (lt-ltb _ 4 c.if-top-lt4.true)

pub returns-else-top-lt4 : goal.returns-else-top-lt4
unfolding top
returns-else-top-lt4 c = rw (le-ltb _ 4 c.if-top-lt4.false)
