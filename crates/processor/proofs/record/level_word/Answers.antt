-- `record::level_word` meets its contract: a level of the machine has its words within the array. Assumes nothing.
use Rattle.processor.proofs.RecordWords.{level-found}
use mathlib.Core.Path.{sym, ◌∙◌}
use borrow.Author.Rules.{rules}
use Rattle.processor.proofs.record.level_word.Goals as goal

pub place-i-requires : goal.place-i-requires
place-i-requires c = (level-found _ _ c.is_level.ensures c.if-is_level.true, search rules)

pub returns-then-is_level : goal.returns-then-is_level
returns-then-is_level c = record { word = rw (sym c.is_level.ensures ∙ c.if-is_level.true, ← c.place-i.ensures.place); size = search rules }

pub returns : goal.returns
returns c = record { word = rw (sym c.is_level.ensures ∙ c.if-is_level.false); size = search rules }
