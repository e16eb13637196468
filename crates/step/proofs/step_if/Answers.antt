-- `step_if` meets its contract: both tests of the definition. Assumes nothing.
use Rattle.model.specs.State.{processors}
use Rattle.model.specs.Step.{next_for}
use Rattle.state.specs.Lent.{machine_of}
use Rattle.step.specs.Stepped.{step_if}
use borrow.Author.Tests.{le-leb, lt-leb}
use Rattle.step.proofs.step_if.Goals as goal

pub returns-then-setup-le4 : goal.returns-then-setup-le4
unfolding step_if processors machine_of
returns-then-setup-le4 c = rw (c.if-formed.true, le-leb _ _ c.if-setup-le4.true) c.ruled.ensures

pub returns-else-setup-le4 : goal.returns-else-setup-le4
unfolding step_if processors machine_of next_for
returns-else-setup-le4 c = rw (c.if-formed.true, lt-leb _ _ c.if-setup-le4.false)

pub returns-else-formed : goal.returns-else-formed
unfolding step_if next_for
returns-else-formed c = rw c.if-formed.false
