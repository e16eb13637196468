-- `script::fields::number_end` meets its contract: a field that does not begin with a tab ends after its first byte, or is searched.
-- Assumes nothing.
use Prim.Native.Nat.{◌+◌}
use mathlib.Core.Path.{◌∙◌, sym}
use native.Mathlib.Omega.{arith}
use Rattle.script.specs.LineForms.{tab}
use Rattle.script.proofs.FieldPlaces.{at_byte, at-end, end-within, item-read, past-byte}
use Rattle.script.proofs.fields.number_end.Goals as goal

pub returns-in-None : goal.returns-in-None
returns-in-None c =
    let a = c.args in
    let over = c.in-None.ensures.lookup in
    record {
      after = omega arith;
      within = omega arith;
      ends = λ plain. omega (arith, past-byte tab a.line.now a.start (omega arith) plain, at-end tab a.line.now (a.start + 1) (omega (arith, over)));
    }

pub returns-in-Some-eq9 : goal.returns-in-Some-eq9
returns-in-Some-eq9 c =
    let a = c.args in
    let next = item-read a.line.now (a.start + 1) c.in-Some-eq9.field-0 c.in-Some-eq9.ensures.lookup in
    record {
      after = omega arith;
      within = omega arith;
      ends = λ plain. sym (past-byte tab a.line.now a.start (omega arith) plain ∙ at_byte tab a.line.now (a.start + 1) (omega arith) (omega arith));
    }

pub returns-in-Some : goal.returns-in-Some
returns-in-Some c =
    let a = c.args in
    let next = item-read a.line.now (a.start + 1) c.in-Some.field-0 c.in-Some.ensures.lookup in
    let inside = end-within tab a.line.now (a.start + 1 + 1) (omega arith) in
    record {
      after = omega (arith, c.find_byte.ensures, inside);
      within = omega (arith, c.find_byte.ensures, inside);
      ends = λ plain.
          c.find_byte.ensures
          ∙ sym (past-byte tab a.line.now a.start (omega arith) plain ∙ past-byte tab a.line.now (a.start + 1) (omega arith) (λ e. omega arith));
    }
