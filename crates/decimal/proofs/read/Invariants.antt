-- The invariant of `decimal::read`: what is left of the field, after the number so far, says what the field says. Assumes nothing.
use mathlib.Core.Path.{◌≡◌}
use lib.ListN.{drop}
use Rattle.decimal.specs.Read.{read_decimal, read_from}
use Rattle.decimal.proofs.read.Given as goal

abbrev pub invariant-loop-byte : goal.invariant-loop-byte
invariant-loop-byte l = read_decimal l.field ≡ read_from l.value (drop l.byte-index l.rest)
