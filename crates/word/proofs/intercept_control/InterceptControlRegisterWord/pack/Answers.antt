-- `InterceptControl::pack` meets its contract. Assumes nothing.
use Rattle.std.proofs.Common.{[], ◌∷◌, lit≤}
use Rattle.word.specs.Layout.{reserved}
use Rattle.word.proofs.BitFieldLaws.{packs-first, packs-last, packs-next}
use Rattle.word.proofs.intercept_control.InterceptControlRegisterWord.pack.Goals as goal

pub loop-i-init : goal.loop-i-init
loop-i-init c = packs-first 25 (reserved 39 ∷ []) _

pub loop-i-preserved : goal.loop-i-preserved
loop-i-preserved c = packs-next c.loop-i.invariant c.loop-i-test.true (lit≤ tt) c.put-word.ensures

pub returns : goal.returns
returns c = packs-last c.loop-i.invariant c.loop-i-test.false
