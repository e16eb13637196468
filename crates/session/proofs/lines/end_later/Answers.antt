-- `session::lines::end_later` meets its contract: the line is answered in the state of the session. Assumes nothing.
use Rattle.std.proofs.Common.{ℕ, List, length, take, sym, ap, ◌∙◌, zero-add, arith, length-take-le}
use Rattle.session.proofs.Ending.{ended_by, words_back}
use Rattle.session.proofs.Numbering.{own-number}
use Rattle.listing.specs.Answer.{shown_text}
use Rattle.state.specs.Lent.{lent}
use lib.Seq.{sets}
use Rattle.session.proofs.lines.end_later.Goals as goal

pub slice_bounds-well_formed-end : goal.slice_bounds-well_formed-end
slice_bounds-well_formed-end c = sym (length-take-le _ _ (omega (arith, c.lent_words-lent.ensures)))

pub slice_bounds-answer_line-end : goal.slice_bounds-answer_line-end
slice_bounds-answer_line-end c = sym (length-take-le _ _ (omega (arith, c.lent_words-lent.ensures)))

pub write_record-wrote-requires : goal.write_record-wrote-requires
write_record-wrote-requires c = record { longest_record_in_bounds = omega (arith, c.requires); numbered = own-number c.line_number.ensures }

pub returns : goal.returns
returns c =
    let w = c.answer_line-shown in
    let written = rw c.line_number.ensures.number at c.write_record-wrote.ensures in
    let words = c.lent_words-lent in
    let a = c.args in
    let s = lent a.start.setup a.start.parts.levels a.start.parts.masks a.start.parts.vps (take words.result a.start.words) in
    let e = ended_by a.start.number s _ c.bytes.result.now _ w.ensures.next (ap (shown_text a.start.number) w.ensures.shown) in
    rw (← words.ensures.number, ← c.bytes.ensures)
    (record {
      progress =
          c.after_line-session.ensures
          ∙ rw (c.wrapping_add_u64-next.ensures.value, ← words.ensures.number, words_back a.start.words _ words.result (omega (arith, words.ensures)) w.auto.words)
          e.0;
      wrote = written.value ∙ zero-add _ ∙ ap length e.1;
      written = written.out_after ∙ ap (λ (t : List ℕ). sets a.out.now 0 t) e.1;
    })
