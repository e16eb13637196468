-- `asking::hears` meets its contract: the three tests. Assumes nothing.
use mathlib.Core.Path.{sym, ◌∙◌}
use mathlib.Core.Bool.{and-false}
use borrow.Author.Tests.{lt-ltb, le-ltb}
use Rattle.watch.proofs.asking.hears.Goals as goal

pub returns-then-level-actor : goal.returns-then-level-actor
returns-then-level-actor c = rw (le-ltb _ _ c.if-level-actor.true)

pub returns-then-not-enabled_at : goal.returns-then-not-enabled_at
returns-then-not-enabled_at c = rw (sym c.enabled_at.ensures ∙ c.if-not-enabled_at.true, and-false)

pub returns : goal.returns
returns c =
    rw (
      lt-ltb _ _ c.if-level-actor.false,
      sym c.enabled_at.ensures ∙ c.if-not-enabled_at.false,
      c.asks.ensures,
      c.watch_of.ensures,
    )
