-- `session::lines::feed_later` meets its contract. The loop's invariant is `Feeds`, with a session in a later line of which it
-- holds nothing, and the measure is what is left of the chunk. Assumes nothing.
use Rattle.std.proofs.Common.{ℕ, ◌+◌, ◌-◌, ◌≤◌, List, length, take, drop, sym, refl, ap, ◌∙◌, arith, length-drop, length-take-le, take_all}
use Rattle.chunk.proofs.ChunkLines.{end-within}
use Rattle.session.proofs.Ending.{ended_by, words_back}
use Rattle.session.proofs.Feeding.{feeds-full, feeds-last, feeds-line, feeds-size, feeds-start}
use Rattle.session.proofs.Numbering.{own-number}
use Rattle.listing.specs.Answer.{shown_text}
use Rattle.state.specs.Lent.{lent}
use lib.Seq.{length_front, sets}
use Rattle.session.proofs.lines.feed_later.Goals as goal

pub slice_bounds-well_formed-end : goal.slice_bounds-well_formed-end
slice_bounds-well_formed-end c = sym (length-take-le _ _ (omega (arith, c.lent_words-lent.ensures)))

pub loop-setup-init : goal.loop-setup-init
loop-setup-init c =
    let words = c.lent_words-lent.ensures in
    let line = c.line_number-line.ensures in (
      words.size,
      c.well_formed-formed.ensures,
      rw (words.number, line.number) (feeds-start _ _ _ _ _ c.requires.from_in_bounds c.requires.at_in_bounds),
      own-number line,
    )

pub shape_of-out-then-chunk-end : goal.shape_of-out-then-chunk-end
shape_of-out-then-chunk-end c = feeds-size c.loop-setup.invariant.2

pub returns-then-chunk-end : goal.returns-then-chunk-end
returns-then-chunk-end c =
    let chunk = c.args.chunk.now in
    let rest : length (drop c.loop-setup.i chunk) ≤ length chunk - c.loop-setup.i = omega (arith, length-drop c.loop-setup.i chunk) in
    feeds-last c.loop-setup.invariant.2 _ c.line_end-end.ensures c.if-chunk-end.true _
    (c.keep.ensures ∙ rw (c.after_line-session.ensures, ← c.lent_words-lent.ensures.number, take_all _ _ rest)) refl refl

pub overflow_sub-out : goal.overflow_sub-out
overflow_sub-out c =
    let roomy : c.loop-setup.wrote ≤ length c.loop-setup.out = omega (arith, feeds-size c.loop-setup.invariant.2, c.loop-setup.invariant.2.wrote) in
    roomy

pub shape_of-out-then-out-wrote-lt-LONGEST_RECORD : goal.shape_of-out-then-out-wrote-lt-LONGEST_RECORD
shape_of-out-then-out-wrote-lt-LONGEST_RECORD c = feeds-size c.loop-setup.invariant.2

pub returns-then-out-wrote-lt-LONGEST_RECORD : goal.returns-then-out-wrote-lt-LONGEST_RECORD
returns-then-out-wrote-lt-LONGEST_RECORD c =
    feeds-full c.loop-setup.invariant.2 _ c.line_end-end.ensures c.if-chunk-end.false c.if-out-wrote-lt-LONGEST_RECORD.true _ (c.after_line.ensures ∙ rw (← c.lent_words-lent.ensures.number)) refl refl

pub slice_bounds-bytes-count : goal.slice_bounds-bytes-count
slice_bounds-bytes-count c =
    let placed : (c.loop-setup.i ≤ c.line_end-end.result) × (c.line_end-end.result ≤ length c.args.chunk.now) = omega (arith, c.line_end-end.ensures, end-within c.args.chunk.now c.loop-setup.i c.loop-setup.invariant.2.place.1) in
    (placed).0

pub slice_bounds-bytes-start : goal.slice_bounds-bytes-start
slice_bounds-bytes-start c =
    let placed : (c.loop-setup.i ≤ c.line_end-end.result) × (c.line_end-end.result ≤ length c.args.chunk.now) = omega (arith, c.line_end-end.ensures, end-within c.args.chunk.now c.loop-setup.i c.loop-setup.invariant.2.place.1) in
    (placed).0

pub slice_bounds-bytes-end : goal.slice_bounds-bytes-end
slice_bounds-bytes-end c =
    let placed : (c.loop-setup.i ≤ c.line_end-end.result) × (c.line_end-end.result ≤ length c.args.chunk.now) = omega (arith, c.line_end-end.ensures, end-within c.args.chunk.now c.loop-setup.i c.loop-setup.invariant.2.place.1) in
    (placed).1

pub slice_bounds-words-end-in-loop-setup : goal.slice_bounds-words-end-in-loop-setup
slice_bounds-words-end-in-loop-setup c = omega (arith, c.lent_words-lent.ensures.number, c.loop-setup.invariant.0)

pub slice_bounds-answer_line-end : goal.slice_bounds-answer_line-end
slice_bounds-answer_line-end c = sym (length-take-le _ _ (omega (arith, c.lent_words-lent.ensures.number, c.loop-setup.invariant.0)))

pub answer_line-shown-requires : goal.answer_line-shown-requires
answer_line-shown-requires c = c.loop-setup.invariant.1

pub write_record-wrote-requires : goal.write_record-wrote-requires
write_record-wrote-requires c =
    let roomy : c.loop-setup.wrote ≤ length c.loop-setup.out = omega (arith, feeds-size c.loop-setup.invariant.2, c.loop-setup.invariant.2.wrote) in
    record { longest_record_in_bounds = omega (arith, c.if-out-wrote-lt-LONGEST_RECORD.false, roomy); numbered = c.loop-setup.invariant.3 }

pub next_number-line-requires : goal.next_number-line-requires
next_number-line-requires c = c.loop-setup.invariant.3

pub loop-setup-smaller : goal.loop-setup-smaller
loop-setup-smaller c =
    let placed : (c.loop-setup.i ≤ c.line_end-end.result) × (c.line_end-end.result ≤ length c.args.chunk.now) = omega (arith, c.line_end-end.ensures, end-within c.args.chunk.now c.loop-setup.i c.loop-setup.invariant.2.place.1) in
    omega (arith, placed, c.if-chunk-end.false)

pub loop-setup-preserved : goal.loop-setup-preserved
loop-setup-preserved c =
    let w = c.answer_line-shown in
    let written = c.write_record-wrote in
    let a = c.args in
    let words = c.lent_words-lent in
    let number = c.loop-setup.line.number in
    let next = c.next_number-line.ensures in
    let back = words_back c.loop-setup.words w.new.words words.result (omega (arith, words.ensures.number, c.loop-setup.invariant.0)) w.auto.words in
    let s = lent a.start.setup c.loop-setup.parts.levels c.loop-setup.parts.masks c.loop-setup.parts.vps (take words.result c.loop-setup.words) in
    let e = ended_by number s _ (take (c.line_end-end.result - c.loop-setup.i) (drop c.loop-setup.i a.chunk.now)) _ w.ensures.next
    (ap (shown_text number) w.ensures.shown) in (
      length_front c.loop-setup.words w.new.words words.result w.auto.words ∙ c.loop-setup.invariant.0,
      rw back w.ensures.kept,
      feeds-line c.loop-setup.invariant.2 _ c.line_end-end.ensures c.if-chunk-end.false c.if-out-wrote-lt-LONGEST_RECORD.false
          (rw (back, next.number) e.0)
          (written.ensures.value ∙ ap (λ (t : List ℕ). c.loop-setup.wrote + length t) e.1)
          (written.ensures.out_after ∙ ap (λ (t : List ℕ). sets c.loop-setup.out c.loop-setup.wrote t) e.1),
      own-number next,
    )
