-- `line::past_indices` meets its contract. The loop's invariant: `Behind` of proofs/Beginnings.antt. Assumes nothing.
use Rattle.reader.proofs.Beginnings.{behind-next, behind-other, behind-start, two-digits-at}
use Rattle.reader.proofs.line.past_indices.Goals as goal

pub loop-index-init : goal.loop-index-init
loop-index-init c =
    behind-start c.args.line.now c.args.at c.args.indices.now c.requires.at_in_bounds

pub past_index-requires : goal.past_index-requires
past_index-requires c =
    two-digits-at c.args.indices.now c.loop-index.index-index c.requires.two_digits c.loop-index-test.true

pub returns-in_err-end : goal.returns-in_err-end
returns-in_err-end c =
    let a = c.args in
    rw c.from_residual.ensures
    (behind-other a.line.now a.at a.indices.now c.loop-index.invariant c.loop-index-test.true (rw c.in_err-end.was at c.past_index.ensures))

pub loop-index-preserved : goal.loop-index-preserved
loop-index-preserved c =
    let a = c.args in
    behind-next a.line.now a.at a.indices.now c.loop-index.invariant c.loop-index-test.true (rw c.in_ok-end.was at c.past_index.ensures)
