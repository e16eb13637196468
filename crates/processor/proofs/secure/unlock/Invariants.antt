-- `secure::unlock` meets its contract. The loop's invariant: the locks on the levels below are cleared. Assumes nothing.
use mathlib.Core.Path.{◌≡◌}
use Rattle.processor.specs.Record.{altered, vp_of}
use Rattle.processor.proofs.RecordStores.{cleared_below}
use Rattle.processor.proofs.secure.unlock.Given as goal

abbrev pub invariant-loop-number : goal.invariant-loop-number
invariant-loop-number l = vp_of l.vp ≡ altered l.shape (vp_of l.initial.vp) l.level.0 (cleared_below l.number)
