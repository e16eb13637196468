-- `script::fields::row` meets its contract: it reads number after number while they are ones. Assumes nothing.
use mathlib.Core.Path.{◌∙◌}
use native.Mathlib.Omega.{arith}
use Rattle.script.proofs.NumberReading.{all_read, no_number, number_read, too_few, too_many}
use Rattle.script.proofs.fields.row.Goals as goal

pub returns-then-line-start : goal.returns-then-line-start
returns-then-line-start c = too_few c.loop-count.invariant c.if-line-start.true c.loop-count-test.true

pub returns-in_err-values : goal.returns-in_err-values
returns-in_err-values c =
    c.from_residual.ensures ∙ no_number c.loop-count.invariant _ c.if-line-start.false c.number_end-end.ensures c.read.ensures c.in_err-values.was

pub loop-count-preserved : goal.loop-count-preserved
loop-count-preserved c =
    number_read c.loop-count.invariant _ c.if-line-start.false c.number_end-end.ensures c.read.ensures c.in_ok-values.was c.loop-count-test.true

pub returns-then-at-line : goal.returns-then-at-line
returns-then-at-line c = too_many c.loop-count.invariant c.if-at-line.true (omega arith)

pub returns : goal.returns
returns c = all_read c.loop-count.invariant c.if-at-line.false (omega arith)
