-- The invariant of `script::fields::row`: `count` numbers were read, and they and those after `at` are the line's. Assumes nothing.
use Rattle.script.proofs.NumberReading.{Reading}
use Rattle.script.proofs.fields.row.Given as goal

abbrev pub invariant-loop-count : goal.invariant-loop-count
invariant-loop-count l = Reading l.line l.from l.takes l.values l.count l.at
