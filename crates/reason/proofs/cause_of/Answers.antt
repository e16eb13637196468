-- `reason::cause_of` meets its contract: nothing is asked, or the access is explained. Assumes nothing.
use Rattle.std.specs.Prelude.{Some}
use mathlib.Core.Path.{ap}
use Rattle.reason.proofs.cause_of.Goals as goal

pub returns-in_err-asked : goal.returns-in_err-asked
returns-in_err-asked c words = rw (c.from_residual.ensures, c.in_err-asked.was)

pub returns : goal.returns
returns c words = rw (c.in_ok-asked.was, ← c.mode_of.ensures) (ap Some (c.explain_in.ensures words))
