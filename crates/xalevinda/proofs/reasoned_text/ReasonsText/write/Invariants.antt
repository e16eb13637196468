-- `xalevinda::reasoned_text::Reasons::write` meets its contract: what is left of the script gives what is left to write. Assumes nothing.
use lib.ListN.{length}
use Rattle.session.specs.Session.{progress_of}
use Rattle.reason.specs.ReasonedListing.{reasoned}
use Rattle.xalevinda.proofs.ReasonsStored.{reasons_of}
use Rattle.xalevinda.proofs.Storing.{Partly}
use Rattle.xalevinda.proofs.reasoned_text.ReasonsText.write.Given as goal

abbrev pub invariant-loop-rest : goal.invariant-loop-rest
invariant-loop-rest l = Partly (reasoned l.script) (reasons_of (progress_of l.s) l.rest) 0 l.initial.out l.size l.out

abbrev pub decreases-loop-rest : goal.decreases-loop-rest
decreases-loop-rest l = length l.rest
