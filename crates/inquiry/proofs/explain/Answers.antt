-- `inquiry::explain` meets its contract: records, the access line, and what follows it. Assumes nothing.
use mathlib.Core.List.{List}
use mathlib.Core.Path.{◌≡◌}
use Prim.Native.Nat.{ℕ, ◌≤◌}
use native.Mathlib.Omega.{arith}
use lib.ListN.{length}
use lib.Seq.{sets}
use Rattle.chunk.proofs.ChunkLines.{end-within}
use Rattle.inquiry.specs.AskedLines.{Wrote}
use Rattle.inquiry.proofs.Inquiries.{by-access, no_access, none_read}
use Rattle.inquiry.proofs.explain.Goals as goal

-- What was written, in its parts.
in_parts : {text : List ℕ} {size : ℕ} {before after : List ℕ} → Wrote text size before after
    → record { wrote : size ≡ length text; out : after ≡ sets before 0 text; bounds : Wrote text size before after }
in_parts w = record { wrote = w.counted; out = w.written; bounds = w }

pub returns-in_default : goal.returns-in_default
returns-in_default c = rw (none_read c.read.result c.args.input.now c.read.ensures.passed c.in_default.is) (in_parts c.refuse.ensures)

pub returns-then-input-used : goal.returns-then-input-used
returns-then-input-used c =
    rw (no_access c.read.result c.args.input.now c.read.ensures.passed c.in-Some.received c.in-Some.is c.if-input-used.true) (in_parts c.refuse-then-input-used.ensures)

pub slice_bounds-access_line-end : goal.slice_bounds-access_line-end
slice_bounds-access_line-end c =
    let ends : (c.in-Some.received.used ≤ c.line_end-end.result) × (c.line_end-end.result ≤ length c.args.input.now) = rw c.line_end-end.ensures (end-within c.args.input.now c.in-Some.received.used (omega (arith, c.if-input-used.false))) in
    omega (arith, ends)

pub returns-in_default-access_line : goal.returns-in_default-access_line
returns-in_default-access_line c =
    rw (by-access c.read.result c.args.input.now c.read.ensures.passed c.in-Some.received c.in-Some.is c.line_end-end.result c.line_end-end.ensures (omega (arith, c.if-input-used.false)), ← c.access_line.ensures, c.in_default-access_line.is)
    (in_parts c.refuse-in_default-access_line.ensures)

pub overflow_add-end : goal.overflow_add-end
overflow_add-end c =
    let ends : (c.in-Some.received.used ≤ c.line_end-end.result) × (c.line_end-end.result ≤ length c.args.input.now) = rw c.line_end-end.ensures (end-within c.args.input.now c.in-Some.received.used (omega (arith, c.if-input-used.false))) in
    omega (arith, ends, c.well_formed)

pub returns : goal.returns
returns c =
    rw (by-access c.read.result c.args.input.now c.read.ensures.passed c.in-Some.received c.in-Some.is c.line_end-end.result c.line_end-end.ensures (omega (arith, c.if-input-used.false)), ← c.access_line.ensures, c.in-Some-access_line.is, ← c.mode_of.ensures, ← c.explain_on-explanation.ensures, ← c.min.ensures)
    (in_parts c.write_with.ensures)

pub write_with-requires : goal.write_with-requires
write_with-requires c = omega (arith, c.min.ensures)
