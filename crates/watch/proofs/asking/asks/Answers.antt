-- `asking::asks` meets its contract: the word 0 asks for nothing, and one case for each kind of access. Assumes nothing.
use mathlib.Core.Path.{sym, ap, ◌∙◌}
use Rattle.model.specs.Watching.{asks_read}
use Rattle.watch.specs.Asking.{asks_for}
use Rattle.watch.proofs.Watchers.{none-asks}
use Rattle.watch.proofs.asking.asks.Goals as goal

pub returns-then-watch-eq0 : goal.returns-then-watch-eq0
returns-then-watch-eq0 c = sym (none-asks c.args.access c.args.watch c.if-watch-eq0.true)

pub returns-in-Read : goal.returns-in-Read
unfolding asks_read
returns-in-Read c =
    c.asked.ensures ∙ sym (ap (λ x. asks_for x c.args.watch) c.in-Read.is)

pub returns-in-Write : goal.returns-in-Write
returns-in-Write c =
    c.asks_write.ensures ∙ sym (ap (λ x. asks_for x c.args.watch) c.in-Write.is)
