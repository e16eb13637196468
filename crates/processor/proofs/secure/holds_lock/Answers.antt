-- `secure::holds_lock` meets its contract: the levels above 0 are asked; level 0 holds nothing. Assumes nothing.
use Rattle.std.proofs.Common.{refl, ◌∙◌, rules, tests}
use Rattle.std.proofs.lemmas.Iterator.{YieldsList-from_range}
use Rattle.std.proofs.lemmas.Iterator.Search.{any_from_yields_List}
use Rattle.word.specs.Field.{bit}
use Rattle.model.proofs.BoundedLaws.{any-above}
use Rattle.model.specs.State.{secure_of, lock_bit}
use Rattle.processor.specs.Record.{vp_of}
use Rattle.processor.proofs.RecordLevels.{none-held}
use Rattle.processor.proofs.secure.holds_lock.Goals as goal

pub returns : goal.returns
returns c =
    let a = c.args in
    any_from_yields_List (λ t. bit (secure_of a.shape (vp_of a.vp.now) t a.level.0) lock_bit) _ _ c.any.result c.any.ensures.ran (YieldsList-from_range 1 4 3 (cc) refl) (λ x b q k. search (rules, tests))
    ∙ any-above 3 _ (none-held a.shape (vp_of a.vp.now) a.level.0 1)
