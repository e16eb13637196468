-- `interrupt::set_pending` meets its contract, within the words and past them. Assumes nothing.
use Rattle.model.specs.Arrays.{stored}
use Rattle.model.specs.Updates.{set_pending}
use Rattle.processor.proofs.RecordStores.{pending-read, pending-put}
use Rattle.processor.proofs.RecordWords.{put_same}
use borrow.Author.Tests.{le-ltb}
use mathlib.Core.Path.{sym, ◌∙◌}
use Rattle.processor.proofs.interrupt.set_pending.Goals as goal

pub returns-then-word-ge-PENDING_WORDS : goal.returns-then-word-ge-PENDING_WORDS
unfolding set_pending stored
returns-then-word-ge-PENDING_WORDS c = rw (le-ltb _ _ c.if-word-ge-PENDING_WORDS.true) (sym (put_same _ _ _))

pub returns : goal.returns
unfolding set_pending
returns c =
    let low = c.if-word-ge-PENDING_WORDS.false in
    rw (← pending-read _ _ _ _ low) (c.set_level_bit.ensures ∙ pending-put _ _ _ _ _ low)
