-- `session::feed` meets its contract: the first line of the chunk is ended with the bytes that are held, and what follows is fed
-- line by line. Assumes nothing.
use Rattle.std.proofs.Common.{◌≡◌, ℕ, ◌+◌, ◌-◌, length, take, sym, refl, ap, ◌∙◌, zero-add, arith, length-take-le}
use native.Mathlib.Nat.{sub-zero}
use lib.Seq.{sets}
use Rattle.session.specs.Session.{Ended, ended, extended, kept, progress_of, room_for, state_in}
use Rattle.chunk.specs.Chunk.{held}
use Rattle.session.proofs.Ending.{ended-kept, ended-later, later-in, room_in, stopped-in}
use Rattle.session.proofs.Feeding.{Feeds, fed-whole, feeds-full, feeds-last, feeds-line, feeds-size, feeds-start, feeds-stopped, feeds-then}
use Rattle.session.proofs.feed.Goals as goal

pub returns-then-has_stopped : goal.returns-then-has_stopped
returns-then-has_stopped c =
    let none-fed : let a = c.args in Feeds (progress_of a.start) a.chunk.now 0 a.out.now 0 a.out.now (progress_of a.start) 0 0 = let a = c.args in feeds-start (progress_of a.start) a.chunk.now 0 a.out.now 0 (omega arith) (omega arith) in
    let s = c.args.start in
    fed-whole _ _ _ (record { session = s; used = length c.args.chunk.now; wrote = 0 }) _
    (feeds-stopped (none-fed) (stopped-in s.phase s.number (state_in s) (held s.line.buffer s.line.length) (sym c.has_stopped.ensures ∙ c.if-has_stopped.true)) _ refl refl refl)

pub returns-then-is_later-start : goal.returns-then-is_later-start
returns-then-is_later-start c =
    let a = c.args in
    let s = a.start in
    fed-whole (progress_of s) a.chunk.now a.out.now c.feed_later.result c.feed_later.new.out
    (rw (later-in s.phase s.number (state_in s) s.line.buffer s.line.length (rw c.is_later.ensures at c.if-is_later-start.true))
    c.feed_later.ensures)

pub returns-then-chunk-end : goal.returns-then-chunk-end
returns-then-chunk-end c =
    let none-fed : let a = c.args in Feeds (progress_of a.start) a.chunk.now 0 a.out.now 0 a.out.now (progress_of a.start) 0 0 = let a = c.args in feeds-start (progress_of a.start) a.chunk.now 0 a.out.now 0 (omega arith) (omega arith) in
    fed-whole _ _ _ (record { session = c.keep.result; used = c.line_end-end.result; wrote = 0 }) _
    (feeds-last (none-fed) c.line_end-end.result c.line_end-end.ensures c.if-chunk-end.true _ c.keep.ensures refl refl)

pub returns-then-out-lt-LONGEST_RECORD : goal.returns-then-out-lt-LONGEST_RECORD
returns-then-out-lt-LONGEST_RECORD c =
    let none-fed : let a = c.args in Feeds (progress_of a.start) a.chunk.now 0 a.out.now 0 a.out.now (progress_of a.start) 0 0 = let a = c.args in feeds-start (progress_of a.start) a.chunk.now 0 a.out.now 0 (omega arith) (omega arith) in
    let roomy : room_for (progress_of c.args.start) ≡ 84 = let s = c.args.start in
    room_in s.phase s.number (state_in s) (held s.line.buffer s.line.length) (sym c.has_stopped.ensures ∙ c.if-has_stopped.false) in
    fed-whole _ _ _ (record { session = c.args.start; used = 0; wrote = 0 }) _
    (feeds-full (none-fed) c.line_end-end.result c.line_end-end.ensures c.if-chunk-end.false (rw (roomy) (omega (arith, c.if-out-lt-LONGEST_RECORD.true))) _ refl refl refl)

pub slice_bounds-keep-end : goal.slice_bounds-keep-end
slice_bounds-keep-end c = sym (length-take-le _ _ (omega (arith, c.if-chunk-end.false)))

pub returns-then-has_stopped-2 : goal.returns-then-has_stopped-2
returns-then-has_stopped-2 c =
    let none-fed : let a = c.args in Feeds (progress_of a.start) a.chunk.now 0 a.out.now 0 a.out.now (progress_of a.start) 0 0 = let a = c.args in feeds-start (progress_of a.start) a.chunk.now 0 a.out.now 0 (omega arith) (omega arith) in
    let roomy : room_for (progress_of c.args.start) ≡ 84 = let s = c.args.start in
    room_in s.phase s.number (state_in s) (held s.line.buffer s.line.length) (sym c.has_stopped.ensures ∙ c.if-has_stopped.false) in
    let one-fed : let a = c.args in Feeds (progress_of a.start) a.chunk.now 0 a.out.now 0 c.end_line-ended.new.out (progress_of c.end_line-ended.result.session) (c.line_end-end.result + 1) c.end_line-ended.result.wrote = let a = c.args in
    let p = progress_of a.start in
    let e = c.end_line-ended.ensures in
    let same : ended (progress_of c.keep-line.result) ≡ ended (extended p (take (c.line_end-end.result - 0) a.chunk.now)) =
    ap ended (c.keep-line.ensures ∙ ap (λ (n : ℕ). kept (extended p (take n a.chunk.now))) (sym (sub-zero c.line_end-end.result)))
    ∙ ended-kept (extended p (take (c.line_end-end.result - 0) a.chunk.now)) in
    feeds-line (none-fed) c.line_end-end.result c.line_end-end.ensures c.if-chunk-end.false (rw (roomy) (omega (arith, c.if-out-lt-LONGEST_RECORD.false)))
    (e.progress ∙ ap (λ (x : Ended). x.progress) same)
    (e.wrote ∙ ap (λ (x : Ended). length x.text) same ∙ sym (zero-add _))
    (e.written ∙ ap (λ (x : Ended). sets a.out.now 0 x.text) same) in
    let s = c.end_line-ended.result.session in
    fed-whole _ _ _ (record { session = s; used = length c.args.chunk.now; wrote = c.end_line-ended.result.wrote }) _
    (feeds-stopped (one-fed) (stopped-in s.phase s.number (state_in s) (held s.line.buffer s.line.length) (sym c.has_stopped-2.ensures ∙ c.if-has_stopped-2.true)) _ refl refl refl)

pub overflow_add-end : goal.overflow_add-end
overflow_add-end c =
    omega (arith, c.if-chunk-end.false, c.well_formed)

pub feed_later-requires-2 : goal.feed_later-requires-2
feed_later-requires-2 c =
    let none-fed : let a = c.args in Feeds (progress_of a.start) a.chunk.now 0 a.out.now 0 a.out.now (progress_of a.start) 0 0 = let a = c.args in feeds-start (progress_of a.start) a.chunk.now 0 a.out.now 0 (omega arith) (omega arith) in
    let roomy : room_for (progress_of c.args.start) ≡ 84 = let s = c.args.start in
    room_in s.phase s.number (state_in s) (held s.line.buffer s.line.length) (sym c.has_stopped.ensures ∙ c.if-has_stopped.false) in
    let one-fed : let a = c.args in Feeds (progress_of a.start) a.chunk.now 0 a.out.now 0 c.end_line-ended.new.out (progress_of c.end_line-ended.result.session) (c.line_end-end.result + 1) c.end_line-ended.result.wrote = let a = c.args in
    let p = progress_of a.start in
    let e = c.end_line-ended.ensures in
    let same : ended (progress_of c.keep-line.result) ≡ ended (extended p (take (c.line_end-end.result - 0) a.chunk.now)) =
    ap ended (c.keep-line.ensures ∙ ap (λ (n : ℕ). kept (extended p (take n a.chunk.now))) (sym (sub-zero c.line_end-end.result)))
    ∙ ended-kept (extended p (take (c.line_end-end.result - 0) a.chunk.now)) in
    feeds-line (none-fed) c.line_end-end.result c.line_end-end.ensures c.if-chunk-end.false (rw (roomy) (omega (arith, c.if-out-lt-LONGEST_RECORD.false)))
    (e.progress ∙ ap (λ (x : Ended). x.progress) same)
    (e.wrote ∙ ap (λ (x : Ended). length x.text) same ∙ sym (zero-add _))
    (e.written ∙ ap (λ (x : Ended). sets a.out.now 0 x.text) same) in
    let w = one-fed in
    record { from_in_bounds = w.place.1; at_in_bounds = omega (arith, w.wrote, feeds-size w) }

pub returns : goal.returns
returns c =
    let none-fed : let a = c.args in Feeds (progress_of a.start) a.chunk.now 0 a.out.now 0 a.out.now (progress_of a.start) 0 0 = let a = c.args in feeds-start (progress_of a.start) a.chunk.now 0 a.out.now 0 (omega arith) (omega arith) in
    let roomy : room_for (progress_of c.args.start) ≡ 84 = let s = c.args.start in
    room_in s.phase s.number (state_in s) (held s.line.buffer s.line.length) (sym c.has_stopped.ensures ∙ c.if-has_stopped.false) in
    let one-fed : let a = c.args in Feeds (progress_of a.start) a.chunk.now 0 a.out.now 0 c.end_line-ended.new.out (progress_of c.end_line-ended.result.session) (c.line_end-end.result + 1) c.end_line-ended.result.wrote = let a = c.args in
    let p = progress_of a.start in
    let e = c.end_line-ended.ensures in
    let same : ended (progress_of c.keep-line.result) ≡ ended (extended p (take (c.line_end-end.result - 0) a.chunk.now)) =
    ap ended (c.keep-line.ensures ∙ ap (λ (n : ℕ). kept (extended p (take n a.chunk.now))) (sym (sub-zero c.line_end-end.result)))
    ∙ ended-kept (extended p (take (c.line_end-end.result - 0) a.chunk.now)) in
    feeds-line (none-fed) c.line_end-end.result c.line_end-end.ensures c.if-chunk-end.false (rw (roomy) (omega (arith, c.if-out-lt-LONGEST_RECORD.false)))
    (e.progress ∙ ap (λ (x : Ended). x.progress) same)
    (e.wrote ∙ ap (λ (x : Ended). length x.text) same ∙ sym (zero-add _))
    (e.written ∙ ap (λ (x : Ended). sets a.out.now 0 x.text) same) in
    let s = c.end_line-ended.result.session in
    fed-whole _ _ _ c.feed_later-2.result _
    (feeds-then (one-fed) _ _
    (rw (ended-later _ s.phase s.number (state_in s) (held s.line.buffer s.line.length) (sym c.has_stopped-2.ensures ∙ c.if-has_stopped-2.false) c.end_line-ended.ensures.progress)
    c.feed_later-2.ensures))
