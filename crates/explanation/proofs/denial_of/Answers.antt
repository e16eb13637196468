-- `denial_of` meets its contract: each field is what a callee ensures. Assumes nothing.
use mathlib.Core.Path.{sym, ◌∙◌}
use Rattle.explanation.specs.Explained.{denial_by}
use Rattle.explanation.proofs.denial_of.Goals as goal

pub returns-then-not-in_set : goal.returns-then-not-in_set
unfolding denial_by
returns-then-not-in_set c = rw (sym c.in_set.ensures ∙ c.if-not-in_set.true)

pub returns : goal.returns
unfolding denial_by
returns c =
    rw (c.wanted.ensures, c.mask_at.ensures, c.is_fetch-fetch.ensures, c.in_set-counts.ensures, sym c.in_set.ensures ∙ c.if-not-in_set.false)
