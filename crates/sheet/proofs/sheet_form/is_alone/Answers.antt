-- `sheet_form::is_alone` meets its contract: by its call. Assumes nothing.
use Rattle.sheet.specs.SheetForms.{is_alone}
use Rattle.sheet.proofs.sheet_form.is_alone.Goals as goal

pub returns : goal.returns
unfolding is_alone
returns c = c.is_either.ensures
