-- `sheet_form::good_groups` meets its contract. The loop's invariant: the fields are groups where those after `at` are. The measure is
-- what is left of the sheet. Assumes nothing.
use mathlib.Core.Path.{refl, sym, ◌∙◌}
use native.Mathlib.Omega.{arith}
use Rattle.sheet.proofs.FieldPassing.{group-end, groups-end, groups-go-on, no-group}
use Rattle.sheet.proofs.sheet_form.good_groups.Goals as goal

pub loop-end-init : goal.loop-end-init
loop-end-init c = refl

pub returns : goal.returns
returns c =
    sym (c.loop-end.invariant ∙ no-group c.args.sheet.now c.loop-end.at c.pass_group.ensures (c.in_default.is))

pub returns-then-sheet-end : goal.returns-then-sheet-end
returns-then-sheet-end c =
    sym (c.loop-end.invariant ∙ groups-end c.args.sheet.now c.loop-end.at c.pass_group.ensures c.in-Some.is c.if-sheet-end.true)

pub loop-end-smaller : goal.loop-end-smaller
loop-end-smaller c =
    omega (arith, group-end c.args.sheet.now c.loop-end.at c.pass_group.ensures c.in-Some.is)

pub loop-end-preserved : goal.loop-end-preserved
loop-end-preserved c =
    c.loop-end.invariant ∙ groups-go-on c.args.sheet.now c.loop-end.at c.pass_group.ensures c.in-Some.is c.if-sheet-end.false
