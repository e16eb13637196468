-- `record::set_level_word` meets its contract: a level of the machine has its words within the array. Assumes nothing.
use Rattle.processor.proofs.RecordWords.{level-found, put-none}
use Rattle.processor.proofs.RecordFields.{word-stored}
use mathlib.Core.Path.{sym, ◌∙◌}
use borrow.Author.Rules.{rules}
use Rattle.processor.proofs.record.set_level_word.Goals as goal

pub place-i-requires : goal.place-i-requires
place-i-requires c = (level-found _ _ c.is_level.ensures c.if-is_level.true, search rules)

pub returns-then-is_level : goal.returns-then-is_level
returns-then-is_level c =
    rw c.place-i.ensures.place
    (word-stored _ _ _ _ _ (search rules) c.requires (sym c.is_level.ensures ∙ c.if-is_level.true))

pub returns-else-is_level : goal.returns-else-is_level
returns-else-is_level c = sym (put-none _ _ _ _ (sym c.is_level.ensures ∙ c.if-is_level.false))
