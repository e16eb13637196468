-- `asking::write_watcher` meets its contract: the value as it stands is the register's. Assumes nothing.
use Rattle.std.proofs.Common.{sym, ◌∙◌}
use Rattle.model.specs.Registers.{register_of}
use Rattle.processor.proofs.RecordStores.{words-zero}
use Rattle.processor.specs.Record.{vp_of}
use Rattle.watch.proofs.Watchers.{none_told, not-found}
use Rattle.watch.specs.declared.asking.RegisterAccess.TheVariants.{Write}
use Rattle.watch.proofs.asking.write_watcher.Goals as goal

pub returns-then-none_watches : goal.returns-then-none_watches
returns-then-none_watches c =
    let a = c.args in
    let p = vp_of a.vp.now in
    not-found (none_told a.shape p a.target.0 (Write a.register (register_of a.shape p a.target.0 a.register) a.value) (words-zero _ (sym c.none_watches.ensures ∙ c.if-none_watches.true) a.shape))

pub returns : goal.returns
returns c = rw (c.watcher.ensures, c.register_of-old.ensures)
