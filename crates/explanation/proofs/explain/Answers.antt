-- `explain` meets its contract: the sets that the callees find are those of the state. Assumes nothing.
use mathlib.Core.Path.{sym, ◌∙◌}
use borrow.Author.Tests.{eq-eqb, ne_eqb}
use Rattle.partition.specs.PartitionView.{partition_of}
use Rattle.explanation.proofs.ExplainedParts.{host-explained, levels-explained}
use Rattle.explanation.proofs.explain.Goals as goal

pub returns-then-denying-eq0 : goal.returns-then-denying-eq0
unfolding partition_of
returns-then-denying-eq0 c s v acts holds host =
    let a = c.args in
    host-explained acts holds a.request.mode a.request.page a.request.access c.active_of-actor.result c.active_of-actor.ensures c.counted_set-mbecs.result c.counted_set-mbecs.ensures c.denying_set-denying.result.0 c.denying_set-denying.ensures a.setup.host_mask host (eq-eqb _ 0 c.if-denying-eq0.true)
    ∙ sym (rw (c.host_only.ensures, c.host_denies.ensures))

pub returns : goal.returns
unfolding partition_of
returns c s v acts holds host =
    let a = c.args in
    levels-explained acts holds a.request.mode a.request.page a.request.access c.active_of-actor.result c.active_of-actor.ensures c.counted_set-mbecs.result c.counted_set-mbecs.ensures c.denying_set-denying.result.0 c.denying_set-denying.ensures (ne_eqb _ 0 c.if-denying-eq0.false)
    ∙ sym (rw (c.receiver_of-receiver.ensures, c.denial_of-first.ensures, c.denial_of-second.ensures, c.denial_of-third.ensures))
