-- `interrupt::top_vector` meets its contract: the words are tested from the highest down. Assumes nothing.
use Rattle.std.proofs.Common.{◌-◌, get_or, arith}
use Rattle.model.proofs.TopVectors.{top-bit-low}
use Rattle.processor.proofs.ReadyVectors.{top-at, top-none}
use Rattle.processor.proofs.interrupt.top_vector.Goals as goal

pub overflow_add-result : goal.overflow_add-result
overflow_add-result c = record { fits = omega (arith, c.top_bit.ensures, top-bit-low (get_or c.args.words (c.loop-number.number - 1) 0)) }

pub returns-then-word-ne0 : goal.returns-then-word-ne0
returns-then-word-ne0 c =
    rw c.top_bit.ensures (top-at c.args.words _ (omega arith) c.if-word-ne0.true (λ k a b. c.loop-number.invariant k (omega arith) b))

pub returns : goal.returns
returns c = top-none c.args.words (λ k b. c.loop-number.invariant k (omega arith) b)
