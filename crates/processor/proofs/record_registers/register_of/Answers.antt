-- `record_registers::register_of` meets its contract: a private register or a shared one. Assumes nothing.
use Rattle.model.specs.Registers.{register_of}
use mathlib.Core.Path.{sym, ◌∙◌}
use Rattle.processor.proofs.record_registers.register_of.Goals as goal

pub returns-then-is_private : goal.returns-then-is_private
unfolding register_of
returns-then-is_private c = rw (sym c.is_private.ensures ∙ c.if-is_private.true, c.private_of.ensures)

pub returns : goal.returns
unfolding register_of
returns c = rw (sym c.is_private.ensures ∙ c.if-is_private.false, c.shared_of.ensures)
