-- `control::start` meets its contract: the new row and the set of the enabled levels. Beyond M nothing changes. Assumes nothing.
use Rattle.model.specs.Entry.{started}
use Rattle.model.specs.Updates.{with_level}
use Rattle.processor.specs.Record.{started_row}
use Rattle.processor.proofs.RecordRows.{started-by}
use Rattle.processor.proofs.RecordWords.{level-found, put-none}
use Prim.Native.Nat.{◌<◌}
use mathlib.Core.Path.{sym, ap, ◌∙◌}
use Rattle.processor.proofs.control.start.Goals as goal
use Rattle.processor.proofs.control.start.Goals.{Then-is_level}

below : (c : Then-is_level) → c.args.target.0 < 4
below c = level-found _ _ c.is_level.ensures c.if-is_level.true

pub set_row-requires : goal.set_row-requires
set_row-requires c = below c.before.before.before.before

pub enable-requires : goal.enable-requires
enable-requires c = below c.before.before.before.before.before.before

pub returns-then-is_level : goal.returns-then-is_level
returns-then-is_level c =
    rw c.enable.ensures.enabled
    (started-by _ _ _ _ _ _ _ (sym c.is_level.ensures ∙ c.if-is_level.true) c.four_words-held.ensures.size c.enable.ensures.size c.set_row.ensures.rest
    (c.set_row.ensures.row ∙ rw (← c.watch_of.ensures)
    (c.started_row-row.ensures ∙ ap (λ held. let i = c.args.initial in started_row i.rip i.rsp i.cr0 held c.watch_of.result) c.four_words-held.ensures.words)))

pub returns-else-is_level : goal.returns-else-is_level
unfolding started with_level
returns-else-is_level c = let none = sym c.is_level.ensures ∙ c.if-is_level.false in rw (put-none _ _ _ _ none, none)
