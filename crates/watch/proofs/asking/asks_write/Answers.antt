-- `asking::asks_write` meets its contract: the tests of the definition. Assumes nothing.
use mathlib.Core.Path.{sym, ◌∙◌}
use borrow.Author.Tests.{eq-eqb, ne_eqb}
use Rattle.model.specs.Watching.{asks_write}
use Rattle.watch.proofs.asking.asks_write.Goals as goal

pub returns-then-not-asked : goal.returns-then-not-asked
unfolding asks_write
returns-then-not-asked c = rw (sym c.asked.ensures ∙ c.if-not-asked.true)

pub returns-then-mask-eq0 : goal.returns-then-mask-eq0
unfolding asks_write
returns-then-mask-eq0 c = rw (sym c.asked.ensures ∙ c.if-not-asked.false, ← c.mask_for-mask.ensures, eq-eqb _ _ c.if-mask-eq0.true)

pub returns : goal.returns
unfolding asks_write
returns c =
    rw (
      sym c.asked.ensures ∙ c.if-not-asked.false,
      ← c.mask_for-mask.ensures,
      ne_eqb _ _ c.if-mask-eq0.false,
    ) c.changes_masked.ensures
