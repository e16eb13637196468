-- `sheet_form::is_kind` meets its contract: by its call. Assumes nothing.
use Rattle.sheet.specs.SheetForms.{is_kind}
use Rattle.sheet.proofs.sheet_form.is_kind.Goals as goal

pub returns : goal.returns
unfolding is_kind
returns c = c.is_either.ensures
