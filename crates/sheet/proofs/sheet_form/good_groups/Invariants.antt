-- `sheet_form::good_groups` meets its contract. The loop's invariant: the fields are groups where those after `at` are. The measure is
-- what is left of the sheet. Assumes nothing.
use mathlib.Core.Path.{◌≡◌}
use Prim.Native.Nat.{◌-◌}
use lib.ListN.{length}
use Rattle.script.specs.NumberRows.{fields_after}
use Rattle.sheet.specs.SheetForms.{is_groups}
use Rattle.sheet.proofs.sheet_form.good_groups.Given as goal

abbrev pub invariant-loop-end : goal.invariant-loop-end
invariant-loop-end l = is_groups (fields_after l.sheet l.from) ≡ is_groups (fields_after l.sheet l.at)

abbrev pub decreases-loop-end : goal.decreases-loop-end
decreases-loop-end l = length l.sheet - l.at
