-- `first::first_record` meets its contract. Assumes nothing.
use Rattle.std.specs.Prelude.{Result}
use mathlib.Core.Path.{sym, ap, ◌∙◌}
use Rattle.records.specs.Reading.{from_first}
use Rattle.reader.proofs.SevenFields.{first-right, first-wrong}
use Rattle.reader.proofs.first.first_record.Goals as goal
use Rattle.model.specs.declared.answer.Refusal.{Refusal}
use Rattle.model.specs.declared.machine.FirstLine.{FirstLine}

pub returns-then-field_count-ne-FIRST_FIELDS : goal.returns-then-field_count-ne-FIRST_FIELDS
returns-then-field_count-ne-FIRST_FIELDS c rest = sym (first-wrong _ (λ e. c.if-field_count-ne-FIRST_FIELDS.true (c.field_count.ensures ∙ e)) rest)

pub returns : goal.returns
returns c rest =
    ap (λ (s : Result FirstLine Refusal). from_first s rest)
    (c.parse_first.ensures ∙ first-right _ (sym c.field_count.ensures ∙ c.if-field_count-ne-FIRST_FIELDS.false))
