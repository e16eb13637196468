-- `reasoned::feed_line` meets its contract: no line ends in the chunk, or its first line was ended. Assumes nothing.
use Rattle.std.proofs.Common.{◌≡◌, ℕ, ◌+◌, List, length, take, sym, ap, ◌∙◌, arith, length-take-le}
use lib.Seq.{sets}
use Rattle.chunk.proofs.ChunkLines.{end-within}
use Rattle.reasoned.proofs.ReasonedLines.{bounds, kept-all, one_line, text-kept}
use Rattle.reasoned.specs.ReasonedSession.{line_text}
use Rattle.session.proofs.Ending.{ended-kept}
use Rattle.session.specs.Session.{Ended, ended, extended, progress_of}
use Rattle.reasoned.proofs.feed_line.Goals as goal

pub returns-then-chunk-end : goal.returns-then-chunk-end
returns-then-chunk-end c =
    let a = c.args in
    let end = c.line_end-end.result in
    let k = kept-all (progress_of a.start) a.chunk.now end c.line_end-end.ensures c.if-chunk-end.true in
    let within = bounds end 0 a.chunk.now a.out.now (omega (arith, c.line_end-end.ensures, end-within a.chunk.now 0 (omega arith))) (omega arith) in
    record { session = c.keep.ensures ∙ k.1.0; used = k.0; wrote = ap length k.1.1; out = ap (λ (l : List ℕ). sets a.out.now 0 l) k.1.1; bounds = within }

pub slice_bounds-keep-end : goal.slice_bounds-keep-end
slice_bounds-keep-end c = sym (length-take-le _ _ (omega (arith, c.if-chunk-end.false)))

pub returns : goal.returns
returns c =
    let a = c.args in
    let end = c.line_end-end.result in
    let p = progress_of a.start in
    let e = c.end_line-ended.ensures in
    let k = one_line p a.chunk.now end c.line_end-end.ensures (omega (arith, c.if-chunk-end.false)) in
    let q = extended p (take end a.chunk.now) in
    let same : ended (progress_of c.keep-line.result) ≡ ended q = ap ended c.keep-line.ensures ∙ ended-kept q in
    let text : line_text (progress_of c.keep-line.result) ≡ line_text q = ap line_text c.keep-line.ensures ∙ text-kept q in
    let within = bounds (end + 1) c.end_line-ended.result.wrote a.chunk.now c.end_line-ended.new.out (omega (arith, c.if-chunk-end.false)) e.within in record { session = e.progress ∙ ap (λ (x : Ended). x.progress) same ∙ k.1.0; used = k.0; wrote = e.wrote ∙ ap length (text ∙ k.1.1); out = e.written ∙ ap (λ (l : List ℕ). sets a.out.now 0 l) (text ∙ k.1.1); bounds = within }
