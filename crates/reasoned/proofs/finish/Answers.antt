-- `reasoned::finish` meets its contract: the session holds no bytes of a line, or the line is ended. Assumes nothing.
use Rattle.std.proofs.Common.{ℕ, List, length, sym, ap, ◌∙◌, arith}
use lib.Seq.{sets}
use Rattle.chunk.specs.Chunk.{held}
use Rattle.reasoned.proofs.ReasonedLines.{bounds, last_line, none-long}
use Rattle.session.specs.Session.{state_in}
use Rattle.reasoned.proofs.finish.Goals as goal

pub finish_empty-requires : goal.finish_empty-requires
finish_empty-requires c =
    none-long _ (sym c.len.ensures ∙ c.if-len-eq0.true)

pub returns-then-len-eq0 : goal.returns-then-len-eq0
returns-then-len-eq0 c = let w = c.finish_empty.ensures in record { wrote = w.value; out = w.out_after; bounds = bounds 0 _ _ _ (omega arith) w.upper_bound }

pub returns : goal.returns
returns c =
    let a = c.args in
    let s = a.start in
    let e = c.end_line-ended.ensures in
    let text = last_line s.phase s.number (state_in s) (held s.line.buffer s.line.length) (λ z. c.if-len-eq0.false (c.len.ensures ∙ z)) in
    record { wrote = e.wrote ∙ ap length (sym text); out = e.written ∙ ap (λ (l : List ℕ). sets a.out.now 0 l) (sym text); bounds = bounds 0 _ _ _ (omega arith) e.within }
