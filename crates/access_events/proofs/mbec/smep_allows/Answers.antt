-- `mbec::smep_allows` meets its contract: CR4 is read where SMEP is available. Assumes nothing.
use borrow.Author.Tests.{not-false, not-true}
use Rattle.model.specs.Memory.{smep_allows}
use Rattle.access_events.proofs.mbec.smep_allows.Goals as goal

pub returns-then-not-shape : goal.returns-then-not-shape
unfolding smep_allows
returns-then-not-shape c = rw (not-true c.args.shape.smep c.if-not-shape.true)

pub returns : goal.returns
unfolding smep_allows
returns c = rw (c.has_bit.ensures, c.private_of.ensures, not-false c.args.shape.smep c.if-not-shape.false)
