-- `interrupt::highest_ready` meets its contract: the vector of the top bit of the level's words decides. Assumes nothing.
use Rattle.std.proofs.Common.{◌≡◌}
use Rattle.processor.proofs.ReadyVectors.{pending_words, words-fit, words-ready, words-unready}
use Rattle.model.specs.Entry.{top_vector}
use Rattle.processor.proofs.interrupt.highest_ready.Goals as goal
use Rattle.processor.proofs.interrupt.highest_ready.Goals.{After-top_vector-vector}

-- The vector of their top bit.
vector : (c : After-top_vector-vector) → let s = c.args in c.top_vector-vector.result ≡ top_vector (pending_words s.shape s.vp.now s.level.0)
vector c = rw (c.top_vector-vector.ensures, c.four_words.ensures.words)

pub returns-then-tpr-vector : goal.returns-then-tpr-vector
returns-then-tpr-vector c =
    let class = c.level_word-tpr.ensures.word in
    rw (vector c.before) (words-ready _ _ _ (words-fit _ _ _ c.fits-vp) (rw (← vector c.before, ← class) c.if-tpr-vector.true))

pub returns-else-tpr-vector : goal.returns-else-tpr-vector
returns-else-tpr-vector c =
    let class = c.level_word-tpr.ensures.word in
    words-unready _ _ _ (words-fit _ _ _ c.fits-vp) (rw (← vector c.before, ← class) c.if-tpr-vector.false)
