-- The invariant of `decimal::write_long`: the last digits stand from `i` on, and those of `rest` are left for the places before it.
-- Assumes nothing.
use Rattle.decimal.proofs.Writing.{Stored}
use Rattle.decimal.proofs.write_long.Given as goal

abbrev pub invariant-loop-i : goal.invariant-loop-i
invariant-loop-i l = Stored l.initial.out l.at l.value l.out l.i l.rest
