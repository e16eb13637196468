-- `session::listing_record::digits_of` meets its contract. The loop's invariant is `Packing`, and the measure is what is left of the
-- number. Assumes nothing.
use Rattle.session.proofs.Numbering.{Packing}
use Rattle.session.proofs.listing_record.digits_of.Given as goal

abbrev pub invariant-loop-rest : goal.invariant-loop-rest
invariant-loop-rest l = Packing l.number l.word l.width l.rest

abbrev pub decreases-loop-rest : goal.decreases-loop-rest
decreases-loop-rest l = l.rest
