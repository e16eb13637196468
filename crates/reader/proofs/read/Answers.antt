-- `read` meets its contract. Assumes nothing.
use mathlib.Core.Path.{◌≡◌, sym, ◌∙◌}
use native.Mathlib.Omega.{arith}
use lib.Seq.{length-take-le}
use Rattle.chunk.proofs.ChunkLines.{end-within}
use Rattle.records.specs.Reading.{passed_on}
use Rattle.script.specs.Records.{lines}
use Rattle.reader.specs.Received.{passed_in}
use Rattle.reader.proofs.Receiving.{empty-none, few-of, first-malformed, first_passes, first-refused, first_taken, used-received}
use Rattle.reader.proofs.read.Goals as goal

pub returns-then-input-eq0-clause-passed : goal.returns-then-input-eq0-clause-passed
returns-then-input-eq0-clause-passed c = sym (empty-none _ c.if-input-eq0.true)

pub slice_bounds-first_record-end : goal.slice_bounds-first_record-end
slice_bounds-first_record-end c =
    let input = c.args.input.now in
    sym (length-take-le _ _ (omega (arith, c.line_end-end.ensures, end-within input 0 (omega arith))))

pub returns-in_default-clause-passed : goal.returns-in_default-clause-passed
returns-in_default-clause-passed c =
    let end = c.line_end-end in
    let first = c.first_record in
    sym (first-malformed c.args.input.now end.result end.ensures (omega arith) first.result first.ensures _ c.in_default.is)

pub returns-then-not-admissible-clause-passed : goal.returns-then-not-admissible-clause-passed
returns-then-not-admissible-clause-passed c =
    let end = c.line_end-end in
    let first = c.first_record in
    sym (first-refused c.args.input.now end.result end.ensures (omega arith) first.result first.ensures _ c.in-Ok.is (sym c.admissible.ensures ∙ c.if-not-admissible.true))

pub receive-requires-clause-few : goal.receive-requires-clause-few
receive-requires-clause-few c = rw c.setup_of.ensures (few-of _ (sym c.admissible.ensures ∙ c.if-not-admissible.false))

pub returns : goal.returns
returns c =
    let input = c.args.input.now in
    let end = c.line_end-end in
    let first = c.first_record in
    let passed : passed_in c.receive.result input ≡ passed_on (lines input) =
    c.receive.ensures.passed
    ∙ rw (c.setup_of.ensures, c.after_line.ensures)
    (sym (first_taken input end.result end.ensures (omega arith) first.result first.ensures _ c.in-Ok.is (sym c.admissible.ensures ∙ c.if-not-admissible.false))) in
    record {
      passed = passed;
      used = used-received input c.receive.result c.setup_of.result c.after_line.result passed
          (rw c.after_line.ensures (first_passes input end.result end.ensures (omega arith))) c.receive.ensures.used;
    }
