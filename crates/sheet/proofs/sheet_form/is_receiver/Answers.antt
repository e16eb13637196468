-- `sheet_form::is_receiver` meets its contract: by its two tests. Assumes nothing.
use Rattle.script.specs.Bytes.{bytes}
use Rattle.sheet.specs.SheetForms.{is_receiver}
use Rattle.sheet.proofs.WordBytes.{same-by}
use Rattle.sheet.proofs.sheet_form.is_receiver.Goals as goal

pub returns-then-eq : goal.returns-then-eq
unfolding is_receiver
returns-then-eq c = rw (same-by c.args.field.now (bytes "none") (rw c.as_slice.ensures at c.eq.ensures), c.if-eq.true)

pub returns-else-eq : goal.returns-else-eq
unfolding is_receiver
returns-else-eq c =
    rw (same-by c.args.field.now (bytes "none") (rw c.as_slice.ensures at c.eq.ensures), c.if-eq.false) c.is_number.ensures
