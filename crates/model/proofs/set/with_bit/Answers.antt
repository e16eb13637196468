-- `set::with_bit` meets its contract: the bit is within the word. Assumes nothing.
use mathlib.Core.Path.{◌∙◌}
use native.Mathlib.Omega.{arith}
use Rattle.word.proofs.FieldLaws.{put_whole}
use borrow.Author.Rules.{rules}
use Rattle.model.proofs.set.with_bit.Goals as goal

pub returns-then-present : goal.returns-then-present
returns-then-present c = rw c.if-present.true (c.put.ensures ∙ put_whole _ 1 _ 1 (search rules) (omega (arith, c.requires)))

pub returns : goal.returns
returns c = rw c.if-present.false (c.put-2.ensures ∙ put_whole _ 1 _ 0 (search rules) (omega (arith, c.requires)))
