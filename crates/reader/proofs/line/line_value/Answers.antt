-- `line::line_value` meets its contract: a number behind the front of the record, which is 0 or 1 where it says yes or no.
-- Assumes nothing.
use Rattle.std.specs.Prelude.{Option, Some}
use mathlib.Core.Bool.{true, false}
use mathlib.Core.Path.{◌≡◌, sym, ap, ◌∙◌}
use Prim.Native.Nat.{ℕ, ◌-◌}
use mathlib.Core.List.{List}
use native.Mathlib.Omega.{arith}
use lib.ListN.{drop, length, length-drop, take}
use lib.Seq.{take_all}
use Rattle.decimal.specs.Read.{read_decimal}
use Rattle.records.specs.Reading.{is_flag, line_value, number_after, taken}
use Rattle.records.specs.RecordTexts.{front}
use Rattle.records.specs.declared.place.Place.{Place}
use Rattle.reader.specs.PastBytes.{After}
use Rattle.reader.proofs.Beginnings.{behind-front, no_front}
use Rattle.reader.proofs.line.line_value.Goals as goal

-- The number that is read behind the front of the record.
number : (line : List ℕ) (p : Place) (end : ℕ) (n : Option ℕ) → After line 0 (front p) (Some end)
    → n ≡ read_decimal (take (length line - end) (drop end line)) → n ≡ number_after (front p) line
number line p end n h e =
    e ∙ ap read_decimal (take_all (length line - end) (drop end line) (omega (arith, length-drop end line))) ∙ sym (behind-front line p end h)

pub returns-in_err-end : goal.returns-in_err-end
unfolding line_value
returns-in_err-end c =
    let a = c.args in
    rw c.from_residual.ensures
    (sym (ap (taken (is_flag a.place)) (no_front a.line.now a.place (rw c.in_err-end.was at c.past_front.ensures))))

pub returns-then-is_flag : goal.returns-then-is_flag
unfolding line_value
returns-then-is_flag c =
    let a = c.args in
    let yes : is_flag a.place ≡ true = sym c.is_flag.ensures ∙ c.if-is_flag.true in
    rw (c.flag.ensures, number a.line.now a.place c.in_ok-end.end c.read-number.result (rw c.in_ok-end.was at c.past_front.ensures) c.read-number.ensures, yes)

pub returns : goal.returns
unfolding line_value
returns c =
    let a = c.args in
    let no : is_flag a.place ≡ false = sym c.is_flag.ensures ∙ c.if-is_flag.false in
    rw (number a.line.now a.place c.in_ok-end.end c.read-number.result (rw c.in_ok-end.was at c.past_front.ensures) c.read-number.ensures, no)
