-- `reasoned::end_first` meets its contract: the first line was refused, or not. Assumes nothing.
use Rattle.std.proofs.Common.{◌≡◌, Bool, true, false, sym, ap, ◌∙◌}
use Rattle.chunk.specs.Chunk.{held}
use Rattle.reasoned.proofs.ReasonedLines.{first_done, first_ended, first-refused}
use Rattle.session.specs.Session.{Ended, ended, first, is_stopped, progress_of, state_in}
use Rattle.reasoned.proofs.end_first.Goals as goal

pub returns-then-stopped : goal.returns-then-stopped
returns-then-stopped c =
    let after : let s = c.args.start in progress_of c.finish-ended.result.session ≡ (ended (first (held s.line.buffer s.line.length))).progress = let s = c.args.start in
    c.finish-ended.ensures.session ∙ ap (λ (e : Ended). e.progress) (first_ended s.phase s.number (state_in s) (held s.line.buffer s.line.length) c.requires) in
    let stops : (t : Bool) → c.stopped.result ≡ t → let s = c.args.start in is_stopped (ended (first (held s.line.buffer s.line.length))).progress ≡ t = λ t e. ap is_stopped (sym (after)) ∙ sym c.stopped.ensures ∙ e in
    let s = c.args.start in
    let text = first-refused (held s.line.buffer s.line.length) (stops true c.if-stopped.true) in
    let w = rw (c.first_reason.ensures, ← text) at c.write_first-wrote.ensures in
    record { progress = after; wrote = w.value; written = w.out_after; within = w.upper_bound }

pub returns : goal.returns
returns c =
    let after : let s = c.args.start in progress_of c.finish-ended.result.session ≡ (ended (first (held s.line.buffer s.line.length))).progress = let s = c.args.start in
    c.finish-ended.ensures.session ∙ ap (λ (e : Ended). e.progress) (first_ended s.phase s.number (state_in s) (held s.line.buffer s.line.length) c.requires) in
    let stops : (t : Bool) → c.stopped.result ≡ t → let s = c.args.start in is_stopped (ended (first (held s.line.buffer s.line.length))).progress ≡ t = λ t e. ap is_stopped (sym (after)) ∙ sym c.stopped.ensures ∙ e in
    let s = c.args.start in
    let text = first_done (held s.line.buffer s.line.length) (stops false c.if-stopped.false) in
    let w = rw (← text) at c.write_first-wrote-2.ensures in
    record { progress = after; wrote = w.value; written = w.out_after; within = w.upper_bound }
