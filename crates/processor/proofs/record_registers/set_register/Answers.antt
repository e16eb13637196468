-- `record_registers::set_register` meets its contract: a private register or a shared one. Assumes nothing.
use Rattle.model.specs.Updates.{set_register}
use mathlib.Core.Path.{sym, ◌∙◌}
use Rattle.processor.proofs.record_registers.set_register.Goals as goal

pub returns-then-is_private : goal.returns-then-is_private
unfolding set_register
returns-then-is_private c = rw (sym c.is_private.ensures ∙ c.if-is_private.true) c.set_private.ensures

pub returns : goal.returns
unfolding set_register
returns c = rw (sym c.is_private.ensures ∙ c.if-is_private.false) c.set_shared.ensures
