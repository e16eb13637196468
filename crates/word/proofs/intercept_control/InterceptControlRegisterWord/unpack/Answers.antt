-- `InterceptControl::unpack` meets its contract. Assumes nothing.
use Rattle.std.proofs.Common.{refl, ap, arith}
use Rattle.word.specs.RegisterLayouts.{intercept_control}
use Rattle.word.proofs.BitFieldLaws.{bits-next, bits-unpacked}
use Rattle.word.proofs.intercept_control.InterceptControlRegisterWord.unpack.Goals as goal

pub loop-i-init : goal.loop-i-init
loop-i-init c = record { many = refl; bits = λ k low. absurd (omega arith) }

pub loop-i-preserved : goal.loop-i-preserved
loop-i-preserved c = bits-next c.loop-i.invariant c.loop-i-test.true c.take.ensures

pub returns : goal.returns
returns c = ap intercept_control.structure (bits-unpacked 39 c.loop-i.invariant c.loop-i-test.false)
