-- `sheet_form::is_part` meets its contract: by its test. Assumes nothing.
use Rattle.sheet.proofs.sheet_form.is_part.Goals as goal

pub returns-then-last : goal.returns-then-last
returns-then-last c = rw c.if-last.true c.is_kind.ensures

pub returns : goal.returns
returns c = rw c.if-last.false c.is_number.ensures
