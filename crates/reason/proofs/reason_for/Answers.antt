-- `reason::reason_for` meets its contract: by the kind of the answer. Assumes nothing.
use Rattle.reason.proofs.reason_for.Goals as goal

pub returns-then-is_denial : goal.returns-then-is_denial
returns-then-is_denial c =
    rw (c.in-Refused.is, ← c.is_denial.ensures, c.if-is_denial.true) c.denied_by.ensures

pub returns-else-is_denial : goal.returns-else-is_denial
returns-else-is_denial c =
    rw (c.in-Refused.is, ← c.is_denial.ensures, c.if-is_denial.false)

pub returns-in-Intercept : goal.returns-in-Intercept
returns-in-Intercept c = rw c.in-Intercept.is c.denied_by-in-Intercept.ensures
