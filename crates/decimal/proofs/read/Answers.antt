-- `decimal::read` meets its contract: at each byte, what is left of the field says after the number so far what the field says.
-- Assumes nothing.
use mathlib.Core.Path.{sym, ◌∙◌}
use Rattle.decimal.proofs.DigitReading.{read_first, read_none}
use Rattle.decimal.proofs.read.Goals as goal

pub returns-in_err-first : goal.returns-in_err-first
returns-in_err-first c = c.from_residual.ensures ∙ read_none _ c.in_err-first.ensures.cases

pub returns-in_err-value : goal.returns-in_err-value
returns-in_err-value c =
    c.from_residual-in_err-value.ensures ∙ sym (read_first _ c.in_ok-first.ensures.cases.0 (sym c.digit.ensures ∙ c.in_err-value.was))

pub loop-byte-init : goal.loop-byte-init
loop-byte-init c = read_first _ c.in_ok-first.ensures.cases.0 (sym c.digit.ensures ∙ c.in_ok-value.was)
