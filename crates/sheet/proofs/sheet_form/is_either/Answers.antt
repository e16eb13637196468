-- `sheet_form::is_either` meets its contract: by its two tests. Assumes nothing.
use mathlib.Core.Path.{sym}
use Rattle.sheet.proofs.WordBytes.{same-by}
use Rattle.sheet.proofs.sheet_form.is_either.Goals as goal

pub returns-then-eq : goal.returns-then-eq
returns-then-eq c = rw (same-by c.args.field.now c.args.one.now c.eq.ensures, c.if-eq.true)

pub returns-else-eq : goal.returns-else-eq
returns-else-eq c =
    rw (same-by c.args.field.now c.args.one.now c.eq.ensures, c.if-eq.false)
    (sym (same-by c.args.field.now c.args.other.now c.eq-else-eq.ensures))
