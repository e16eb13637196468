-- `InterceptControl::unpack` meets its contract. The loop's invariant: the values before `i` are the bits of the word. Assumes nothing.
use Rattle.word.proofs.BitFieldLaws.{Bits}
use Rattle.word.proofs.intercept_control.InterceptControlRegisterWord.unpack.Given as goal

abbrev pub invariant-loop-i : goal.invariant-loop-i
invariant-loop-i l = Bits 25 l.word l.i l.value-items
