-- `interrupt::top_bit` meets its contract: the top bit stands below the leading zeros. Assumes nothing.
use mathlib.Core.Path.{◌≡◌, sym}
use Prim.Native.Nat.{suc, ◌+◌}
use native.Mathlib.Omega.{arith}
use lib.Count.{count_leading_zeros, leading_le}
use Rattle.model.specs.Entry.{top_bit}
use Rattle.model.proofs.TopVectors.{top-bit, top-bit-zero}
use Rattle.processor.proofs.interrupt.top_bit.Goals as goal
use Rattle.processor.proofs.interrupt.top_bit.Goals.{Else-word-eq0}

pub returns-then-word-eq0 : goal.returns-then-word-eq0
returns-then-word-eq0 c = rw c.if-word-eq0.true (sym top-bit-zero)

-- The leading zeros, the top bit and what lies below it make 64.
counted : (c : Else-word-eq0) → count_leading_zeros 64 c.args.word + suc (top_bit c.args.word) ≡ 64
counted c = (top-bit _ (omega arith) c.ranges.word.fits).counted

pub overflow_cast-result : goal.overflow_cast-result
overflow_cast-result c = record { fits = omega (arith, leading_le 64 c.args.word) }

pub overflow_sub-result : goal.overflow_sub-result
overflow_sub-result c = omega (arith, counted c)

pub returns : goal.returns
returns c = omega (arith, counted c)
