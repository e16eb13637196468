-- `session::lines::end_first` meets its contract: by what the line says, and whether that is admissible. Assumes nothing.
use Rattle.std.proofs.Common.{sym, ◌∙◌, rules}
use Rattle.session.proofs.Ending.{first_done, first-malformed, first-refused}
use Rattle.session.proofs.lines.end_first.Goals as goal

pub returns-in_default : goal.returns-in_default
returns-in_default c =
    rw (first-malformed _ _ (sym c.parse_first.ensures ∙ c.in_default.is)) c.refuse_first.ensures

pub returns-then-not-admissible : goal.returns-then-not-admissible
returns-then-not-admissible c =
    rw (first-refused _ _ (sym c.parse_first.ensures ∙ c.in-Ok.is) (sym c.admissible.ensures ∙ c.if-not-admissible.true))
    c.refuse_first-then-not-admissible.ensures

pub begin-requires : goal.begin-requires
begin-requires c =
    record { longest_record_in_bounds = search rules; first_value = sym c.admissible.ensures ∙ c.if-not-admissible.false }

pub returns : goal.returns
returns c =
    rw (first_done _ _ (sym c.parse_first.ensures ∙ c.in-Ok.is) (sym c.admissible.ensures ∙ c.if-not-admissible.false))
    c.begin.ensures
