-- `asking::read_watcher` meets its contract: no level is told where no word has a bit set. Assumes nothing.
use Rattle.std.proofs.Common.{sym, ◌∙◌}
use Rattle.processor.proofs.RecordStores.{words-zero}
use Rattle.processor.specs.Record.{vp_of}
use Rattle.watch.proofs.Watchers.{none_told, not-found}
use Rattle.watch.specs.declared.asking.RegisterAccess.TheVariants.{Read}
use Rattle.watch.proofs.asking.read_watcher.Goals as goal

pub returns-then-none_watches : goal.returns-then-none_watches
returns-then-none_watches c =
    let a = c.args in
    not-found (none_told a.shape (vp_of a.vp.now) a.target.0 (Read a.register) (words-zero _ (sym c.none_watches.ensures ∙ c.if-none_watches.true) a.shape))
