-- `reasoned::end_later` meets its contract: the line is answered in the state of the session. Assumes nothing.
use Rattle.std.proofs.Common.{ℕ, List, length, take, sym, ap, ◌∙◌, arith, length-take-le}
use lib.Seq.{sets}
use Rattle.reasoned.proofs.ReasonedLines.{later-progress, later-text}
use Rattle.session.proofs.Ending.{words_back}
use Rattle.state.specs.Lent.{lent}
use Rattle.reasoned.proofs.end_later.Goals as goal

pub slice_bounds-tell-end : goal.slice_bounds-tell-end
slice_bounds-tell-end c = sym (length-take-le _ _ (omega (arith, c.lent_words-lent.ensures)))

pub returns : goal.returns
returns c =
    let a = c.args in
    let w = c.tell-told.ensures in
    let line = c.bytes.result.now in
    let s = lent a.start.setup a.start.parts.levels a.start.parts.masks c.args.start.parts.vps (take c.lent_words-lent.result a.start.words) in
    let text = later-text a.start.number s line _ _ _ c.parse-parsed.ensures w.shown w.why in
    rw (← c.lent_words-lent.ensures.number, ← c.bytes.ensures)
    (record {
      progress =
          c.after_line-session.ensures
          ∙ rw (c.wrapping_add_u64-next.ensures.value, ← c.lent_words-lent.ensures.number, words_back a.start.words _ c.lent_words-lent.result (omega (arith, c.lent_words-lent.ensures)) c.tell-told.auto.words)
          (later-progress a.start.number s _ line (rw c.parse-parsed.ensures at w.next));
      wrote = c.write_line-wrote.ensures.wrote ∙ ap length text;
      written = c.write_line-wrote.ensures.out ∙ ap (λ (t : List ℕ). sets a.out.now 0 t) text;
      within = c.write_line-wrote.ensures.within;
    })
