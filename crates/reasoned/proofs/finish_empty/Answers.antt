-- `reasoned::finish_empty` meets its contract: an empty script is refused, and nothing else is written. Assumes nothing.
use Rattle.std.proofs.Common.{refl, arith}
use Rattle.reasoned.proofs.finish_empty.Goals as goal

pub returns-in-First : goal.returns-in-First
returns-in-First c =
    rw (c.in-First.is, c.requires) c.write_first.ensures

pub returns-in-Later : goal.returns-in-Later
returns-in-Later c = rw (c.in-Later.is, c.requires) record { value = refl; out_after = refl; upper_bound = omega arith }

pub returns-in-Stopped : goal.returns-in-Stopped
returns-in-Stopped c = rw c.in-Stopped.is record { value = refl; out_after = refl; upper_bound = omega arith }
