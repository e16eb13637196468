-- `places::read_places` meets its contract. The loop's invariant: `Reads` of proofs/Taking.antt. The measure is what is left of the ranks.
-- Assumes nothing.
use Prim.Native.Nat.{ℕ}
use Rattle.std.specs.Prelude.{Option}
use mathlib.Core.Bool.{false}
use mathlib.Core.Path.{sym, ap, ◌∙◌}
use Prim.Native.Nat.{◌<◌, ◌≤◌}
use native.Mathlib.Omega.{arith}
use lib.ListN.{length}
use Rattle.chunk.proofs.ChunkLines.{end-within}
use Rattle.records.specs.Reading.{taken}
use Rattle.reader.proofs.Taking.{reads_at, reads-done, reads-start}
use Rattle.reader.proofs.places.read_places.Goals as goal

pub loop-due-init : goal.loop-due-init
loop-due-init c =
    rw c.first-due.ensures (reads-start c.requires.few c.requires.from_in_bounds c.requires.words_value)

pub returns : goal.returns
returns c =
    let d = reads-done (rw c.in_default.is at c.loop-due.invariant) in
    (d.gives, d.place.0, d.place.1, d.passes)

pub returns-then-input-at : goal.returns-then-input-at
returns-then-input-at c = (reads_at (rw c.in-Some.is at c.loop-due.invariant)).missing c.if-input-at.true

pub slice_bounds-line_value-end : goal.slice_bounds-line_value-end
slice_bounds-line_value-end c =
    let line-within : (c.loop-due.at ≤ c.line_end-end.result) × (c.line_end-end.result ≤ length c.args.input.now) = let at = c.loop-due.at in
    let input = c.args.input.now in
    let low : at < length input = c.if-input-at.false in
    omega (arith, c.line_end-end.ensures, end-within input at (omega arith)) in
    omega (arith, line-within)

pub line_value-requires : goal.line_value-requires
line_value-requires c = (reads_at (rw c.in-Some.is at c.loop-due.invariant)).room

pub returns-in_err-value : goal.returns-in_err-value
returns-in_err-value c =
    rw c.from_residual.ensures
    ((reads_at (rw c.in-Some.is at c.loop-due.invariant)).refused c.line_end-end.result c.line_end-end.ensures c.if-input-at.false
    (sym c.line_value.ensures ∙ ap (λ (n : Option ℕ). taken false n) c.in_err-value.was))

pub store-requires : goal.store-requires
store-requires c = (reads_at (rw c.in-Some.is at c.loop-due.invariant)).room

pub loop-due-smaller : goal.loop-due-smaller
loop-due-smaller c =
    let d = reads_at (rw c.in-Some.is at c.loop-due.invariant) in
    rw (c.next-due.ensures, c.in-Some.is) (omega (arith, d.below, d.rises))

pub loop-due-preserved : goal.loop-due-preserved
loop-due-preserved c =
    let d = reads_at (rw c.in-Some.is at c.loop-due.invariant) in
    let said = sym c.line_value.ensures ∙ ap (λ (n : Option ℕ). taken false n) c.in_ok-value.was in
    rw (c.next-due.ensures, c.after_line-at.ensures, c.store.ensures)
    (d.taken c.line_end-end.result c.in_ok-value.value c.line_end-end.ensures c.if-input-at.false said)
