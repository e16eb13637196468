-- `session::listing_record::digits_of` meets its contract. The loop's invariant is `Packing`, and the measure is what is left of the
-- number. Assumes nothing.
use Rattle.std.proofs.Common.{arith}
use Rattle.session.proofs.Numbering.{packing-digit, packing-end, packing-start, width-left, word_small}
use Rattle.session.proofs.listing_record.digits_of.Goals as goal

pub loop-rest-init : goal.loop-rest-init
loop-rest-init c = packing-start _ c.requires

pub overflow_mul-word : goal.overflow_mul-word
overflow_mul-word c = omega (arith, word_small c.loop-rest.invariant c.loop-rest-test.true)

pub overflow_add-word-in-loop-rest : goal.overflow_add-word-in-loop-rest
overflow_add-word-in-loop-rest c = omega (arith, word_small c.loop-rest.invariant c.loop-rest-test.true)

pub overflow_add-width : goal.overflow_add-width
overflow_add-width c = omega (arith, width-left c.loop-rest.invariant c.loop-rest-test.true)

pub loop-rest-preserved : goal.loop-rest-preserved
loop-rest-preserved c = packing-digit c.loop-rest.invariant c.loop-rest-test.true

pub returns : goal.returns
returns c = record { text = packing-end c.loop-rest.invariant (omega arith); few = c.loop-rest.invariant.few }
