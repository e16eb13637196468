-- `registers::position_of` meets its contract. `row_at` speaks of the table that the layouts ask for, `rows_of layouts`, and of its
-- first rows: where it is used here antt computes these and compares them with all rows of the code. Assumes nothing.
use Rattle.std.proofs.Common.{arith}
use Rattle.word.proofs.RegisterFieldLaws.{field-past-last, register-past-last, row_at, rows-of-register}
use Rattle.word.proofs.registers.position_of.Goals as goal

pub returns-then-register-ge-REGISTERS : goal.returns-then-register-ge-REGISTERS
returns-then-register-ge-REGISTERS c = register-past-last _ _ c.if-register-ge-REGISTERS.true

pub overflow_sub-number : goal.overflow_sub-number
overflow_sub-number c = omega (arith, rows-of-register c.args.register c.if-register-ge-REGISTERS.false)

pub returns-then-field-number : goal.returns-then-field-number
returns-then-field-number c =
    let a = c.args in
    field-past-last a.register a.field (omega (arith, rows-of-register a.register c.if-register-ge-REGISTERS.false))

pub bounds-first-first : goal.bounds-first-first
bounds-first-first c = (row_at _ _ c.if-register-ge-REGISTERS.false c.if-field-number.false).0

pub overflow_add-result : goal.overflow_add-result
overflow_add-result c = omega (arith, bounds-first-first c)

pub offset_bounds-first : goal.offset_bounds-first
offset_bounds-first c = omega (arith, bounds-first-first c)

pub returns : goal.returns
returns c = (row_at _ _ c.if-register-ge-REGISTERS.false c.if-field-number.false).1
