-- `InterceptControl::pack` meets its contract. The loop's invariant: packing on from field `i` gives the word of all values. Assumes nothing.
use Rattle.std.proofs.Common.{[], ◌∷◌}
use Rattle.word.specs.Layout.{reserved}
use Rattle.word.proofs.BitFieldLaws.{Packs}
use Rattle.word.proofs.intercept_control.InterceptControlRegisterWord.pack.Given as goal

abbrev pub invariant-loop-i : goal.invariant-loop-i
invariant-loop-i l = Packs 25 (reserved 39 ∷ []) l.value-items l.i l.word
