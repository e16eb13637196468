-- The text has a longest record for each line at most.
use native.Mathlib.Omega.{arith}
use Rattle.xalevinda.proofs.ListingRoom.{resumed-at-most}
use Rattle.xalevinda.proofs.written.ResumedText.enough.Goals as goal

pub returns : goal.returns
returns c = omega (arith, c.enough_for_records.ensures, resumed-at-most c.args.input.now)
