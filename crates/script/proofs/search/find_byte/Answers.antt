-- `script::search::find_byte` meets its contract: it passes one byte after another. Assumes nothing.
use mathlib.Core.Path.{sym, ◌∙◌}
use native.Mathlib.Omega.{arith}
use Rattle.script.proofs.FieldPlaces.{at_byte, at-end, past-byte}
use Rattle.script.proofs.search.find_byte.Goals as goal

pub returns-then-bytes-i : goal.returns-then-bytes-i
returns-then-bytes-i c = sym (c.loop-i.invariant ∙ at_byte _ _ _ c.loop-i-test.true c.if-bytes-i.true)

pub loop-i-preserved : goal.loop-i-preserved
loop-i-preserved c = c.loop-i.invariant ∙ past-byte _ _ _ c.loop-i-test.true c.if-bytes-i.false

pub returns : goal.returns
returns c =
    let a = c.args in
    let here = at-end a.byte a.bytes.now c.loop-i.i c.loop-i-test.false in
    let past = at-end a.byte a.bytes.now a.start in
    grind (arith, c.max.ensures, c.loop-i.invariant)
