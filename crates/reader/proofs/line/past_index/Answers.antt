-- `line::past_index` meets its contract. Assumes nothing.
use mathlib.Core.List.{[], ◌∷◌}
use Prim.Native.Nat.{◌+◌, ◌/◌, ◌%◌}
use native.Mathlib.Omega.{arith}
use Rattle.script.specs.LineForms.{tab}
use Rattle.reader.proofs.Beginnings.{both, cell-one, cell-two, none_first}
use Rattle.reader.proofs.line.past_index.Goals as goal

pub returns-then-index-lt10 : goal.returns-then-index-lt10
returns-then-index-lt10 c = rw (cell-one c.args.index c.if-index-lt10.true) c.past_last.ensures

pub returns-in_err-next : goal.returns-in_err-next
returns-in_err-next c =
    let a = c.args in
    let n = a.index in
    rw (cell-two n (omega arith) (omega arith), c.from_residual.ensures)
    (none_first a.line.now a.at ((48 + n / 10) ∷ []) ((48 + n % 10) ∷ tab ∷ []) (rw c.in_err-next.was at c.past_byte.ensures))

pub returns : goal.returns
returns c =
    let a = c.args in
    let n = a.index in
    rw (cell-two n (omega arith) (omega arith))
    (both a.line.now a.at ((48 + n / 10) ∷ []) ((48 + n % 10) ∷ tab ∷ []) c.past_last-2.result (rw c.in_ok-next.was at c.past_byte.ensures) c.past_last-2.ensures)
