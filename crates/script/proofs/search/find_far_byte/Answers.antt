-- `script::search::find_far_byte` meets its contract. The loop's invariant: the byte stands where it next stands from `i` on. The
-- measure is what is left of the bytes. Assumes nothing.
use mathlib.Core.Path.{refl, sym, ◌∙◌}
use borrow.Author.Tests.{le-ltb, lt-ltb}
use Rattle.script.proofs.search.find_far_byte.Goals as goal

pub returns-then-bytes-lt4 : goal.returns-then-bytes-lt4
returns-then-bytes-lt4 c = c.find_byte.ensures

pub loop-i-init : goal.loop-i-init
loop-i-init c = refl

pub returns-then-passed-lt4 : goal.returns-then-passed-lt4
returns-then-passed-lt4 c =
    sym (c.loop-i.invariant ∙ (rw (lt-ltb c.bytes_before-passed.result 4 c.if-passed-lt4.true) at c.bytes_before-passed.ensures))

pub loop-i-preserved : goal.loop-i-preserved
loop-i-preserved c =
    c.loop-i.invariant ∙ (rw (le-ltb c.bytes_before-passed.result 4 c.if-passed-lt4.false) at c.bytes_before-passed.ensures)

pub returns : goal.returns
returns c = c.find_byte-2.ensures ∙ sym c.loop-i.invariant
