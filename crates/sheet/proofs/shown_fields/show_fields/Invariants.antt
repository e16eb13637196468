-- `shown_fields::show_fields` meets its contract. The loop's invariant is `Showing`. Assumes nothing.
use lib.ListN.{length}
use Rattle.sheet.proofs.FieldShowing.{Showing}
use Rattle.sheet.proofs.shown_fields.show_fields.Given as goal

abbrev pub invariant-loop-field : goal.invariant-loop-field
invariant-loop-field l = Showing l.initial.out l.from l.sheet l.out l.at (length l.yielded)
