-- `mbec::counting_set` meets its contract: the test of the definition, and the levels whose MBEC counts. Assumes nothing.
use mathlib.Core.Path.{sym, ◌∙◌}
use Rattle.access_events.specs.Counting.{counting_set}
use Rattle.access_events.proofs.mbec.counting_set.Goals as goal

pub returns-then-not-is_user_fetch : goal.returns-then-not-is_user_fetch
unfolding counting_set
returns-then-not-is_user_fetch c = rw (sym c.is_user_fetch.ensures ∙ c.if-not-is_user_fetch.true)

pub returns : goal.returns
unfolding counting_set
returns c = rw (sym c.is_user_fetch.ensures ∙ c.if-not-is_user_fetch.false, c.counted_set.ensures)
