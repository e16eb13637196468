-- `secure::secure_of` meets its contract: nothing is held for the level itself or a higher one. Assumes nothing.
use Rattle.model.specs.Arrays.{number_at}
use Rattle.model.specs.State.{secure_of}
use Rattle.processor.proofs.RecordStores.{held-read}
use borrow.Author.Tests.{lt-ltb, le-ltb}
use mathlib.Core.Path.{◌∙◌}
use Rattle.processor.proofs.secure.secure_of.Goals as goal

pub returns-then-lower-holder : goal.returns-then-lower-holder
unfolding secure_of
returns-then-lower-holder c = rw (le-ltb _ _ c.if-lower-holder.true)

pub returns-then-lower-ge-LEVEL_COUNT : goal.returns-then-lower-ge-LEVEL_COUNT
unfolding secure_of number_at
returns-then-lower-ge-LEVEL_COUNT c = rw (lt-ltb _ _ c.if-lower-holder.false, le-ltb _ _ c.if-lower-ge-LEVEL_COUNT.true)

pub returns : goal.returns
unfolding secure_of
returns c = rw (lt-ltb _ _ c.if-lower-holder.false) (c.level_word.ensures.word ∙ held-read _ _ _ _ c.if-lower-ge-LEVEL_COUNT.false)
