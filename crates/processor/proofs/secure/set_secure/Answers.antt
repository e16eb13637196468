-- `secure::set_secure` meets its contract, within the words and past them. Assumes nothing.
use Rattle.model.specs.Arrays.{stored}
use Rattle.model.specs.Updates.{set_secure}
use Rattle.processor.proofs.RecordStores.{secure-put}
use Rattle.processor.proofs.RecordWords.{put_same}
use borrow.Author.Tests.{le-ltb}
use mathlib.Core.Path.{sym, ◌∙◌}
use Rattle.processor.proofs.secure.set_secure.Goals as goal

pub returns-then-lower-ge-LEVEL_COUNT : goal.returns-then-lower-ge-LEVEL_COUNT
unfolding set_secure stored
returns-then-lower-ge-LEVEL_COUNT c = rw (le-ltb _ _ c.if-lower-ge-LEVEL_COUNT.true) (sym (put_same _ _ _))

pub returns : goal.returns
returns c = c.set_level_word.ensures ∙ secure-put _ _ _ _ _ c.if-lower-ge-LEVEL_COUNT.false
