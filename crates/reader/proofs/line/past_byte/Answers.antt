-- `line::past_byte` meets its contract. Assumes nothing.
use native.Mathlib.Omega.{arith}
use Rattle.reader.proofs.Beginnings.{byte-here, byte-none, byte-other}
use Rattle.reader.proofs.line.past_byte.Goals as goal

pub returns-then-line-at : goal.returns-then-line-at
returns-then-line-at c = let a = c.args in byte-none a.line.now a.at a.byte c.if-line-at.true

pub returns-then-line-at-2 : goal.returns-then-line-at-2
returns-then-line-at-2 c = let a = c.args in byte-here a.line.now a.at a.byte (omega arith) c.if-line-at-2.true

pub returns : goal.returns
returns c = let a = c.args in byte-other a.line.now a.at a.byte (omega arith) c.if-line-at-2.false
