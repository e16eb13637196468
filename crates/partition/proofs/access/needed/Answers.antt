-- `needed` meets its contract: one case for each kind of access. Assumes nothing.
use Rattle.model.specs.Memory.{needed}
use Rattle.partition.proofs.access.needed.Goals as goal

pub returns-in-Read : goal.returns-in-Read
unfolding needed
returns-in-Read c = rw c.in-Read.is

pub returns-in-Write : goal.returns-in-Write
unfolding needed
returns-in-Write c = rw c.in-Write.is

pub returns-then-mbec-user : goal.returns-then-mbec-user
unfolding needed
returns-then-mbec-user c = rw (c.in-Fetch.is, ← c.is_user-user.ensures, c.if-mbec-user.true)

pub returns-else-mbec-user : goal.returns-else-mbec-user
unfolding needed
returns-else-mbec-user c = rw (c.in-Fetch.is, ← c.is_user-user.ensures, c.if-mbec-user.false)
