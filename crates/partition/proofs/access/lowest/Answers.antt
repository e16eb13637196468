-- `lowest` meets its contract: the levels are tested from 0 up. Assumes nothing.
use Rattle.std.proofs.Common.{sym, ◌∙◌, arith}
use Rattle.model.proofs.Searches.{first-found, none-found}
use Rattle.partition.specs.Denying.{lowest_in}
use Rattle.partition.proofs.access.lowest.Goals as goal

pub returns-then-in_both : goal.returns-then-in_both
unfolding lowest_in
returns-then-in_both c = first-found _ c.loop-number.number (omega arith) (sym c.in_both.ensures ∙ c.if-in_both.true) c.loop-number.invariant

pub returns : goal.returns
unfolding lowest_in
returns c = none-found _ (λ k h. c.loop-number.invariant k (omega arith))
