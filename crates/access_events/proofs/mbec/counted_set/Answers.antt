-- `mbec::counted_set` meets its contract: the test of the definition, and the levels that have MBEC on. Assumes nothing.
use mathlib.Core.Path.{sym, ◌∙◌}
use Rattle.access_events.specs.Counting.{counted_set}
use Rattle.access_events.proofs.mbec.counted_set.Goals as goal

pub returns-then-not-smep_allows : goal.returns-then-not-smep_allows
unfolding counted_set
returns-then-not-smep_allows c = rw (sym c.smep_allows.ensures ∙ c.if-not-smep_allows.true)

pub returns : goal.returns
unfolding counted_set
returns c = rw (sym c.smep_allows.ensures ∙ c.if-not-smep_allows.false, c.mbec_set.ensures)
