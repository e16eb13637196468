-- `asking::mask_for` meets its contract: the tests of the definition. Assumes nothing.
use borrow.Author.Tests.{eq-eqb, ne_eqb}
use Rattle.model.specs.Watching.{mask_for}
use Rattle.watch.proofs.asking.mask_for.Goals as goal

pub returns-then-register-eq-CR0 : goal.returns-then-register-eq-CR0
unfolding mask_for
returns-then-register-eq-CR0 c = rw (eq-eqb _ _ c.if-register-eq-CR0.true)

pub returns-then-register-eq-CR4 : goal.returns-then-register-eq-CR4
unfolding mask_for
returns-then-register-eq-CR4 c = rw (ne_eqb _ _ c.if-register-eq-CR0.false, eq-eqb _ _ c.if-register-eq-CR4.true)

pub returns : goal.returns
unfolding mask_for
returns c = rw (ne_eqb _ _ c.if-register-eq-CR0.false, ne_eqb _ _ c.if-register-eq-CR4.false)
