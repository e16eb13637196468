-- Laws of feeding a chunk from a place on: one line more, the end of the chunk, and a buffer with too little room. `Feeds` is
-- what the loop over a chunk's lines keeps. Assumes nothing.
use Rattle.std.specs.Prelude.{None, Option, Some}
use Rattle.std.proofs.Common.{◌≡◌, ℕ, suc, ◌+◌, ◌-◌, ◌<◌, ◌≤◌, Bool, true, false, cond, ltb, List, [], ◌∷◌, ◌++◌, length, take, drop, sym, refl, ap, ◌∙◌, append_assoc, add-zero, zero-add, arith, length-append, length-drop, length-take-le, ltb-false, le-ltb, lt-ltb}
use native.Mathlib.Nat.{sub-zero}
use lib.Seq.{length-sets, sets}
use Rattle.model.specs.State.{State}
use Rattle.script.proofs.Cells.{line-at-most}
use Rattle.script.proofs.StoredTexts.{sets-append}
use Rattle.script.specs.First.{line_first}
use Rattle.script.specs.ListingLine.{line_feed}
use Rattle.session.specs.declared.Fed.{Fed}
use Rattle.chunk.specs.Chunk.{line_end}
use Rattle.listing.specs.Listing.{state_by}
use Rattle.script.specs.Records.{lines_in}
use Rattle.session.specs.SessionParts.{FedFrom}
use Rattle.session.specs.Session.{Bounds, Ended, Feeding, Progress, begun, ended, extended, fed, fed_lines, first, followed, kept, later, progress_of, room_for, stopped}
use Rattle.chunk.proofs.ChunkLines.{end-within, joined, lines_from, lines-last, lines-joined}

-- A record has at most 84 bytes.
begun-at-most : (o : Option State) → length (begun o).text ≤ 84
begun-at-most None = line-at-most 0 1 0 0
begun-at-most (Some s) = line-at-most 0 0 0 0

pub ended-at-most : (p : Progress) → length (ended p).text ≤ 84
unfolding ended
ended-at-most (first line) = begun-at-most (state_by (line_first line))
ended-at-most (later number s line) = line-at-most number _ _ _
ended-at-most stopped = omega arith

-- A session that has stopped stays so.
pub room_of : (p : Progress) (line : List ℕ) → length (ended (extended p line)).text ≤ room_for p
unfolding ended
room_of (first bytes) line = begun-at-most (state_by (line_first (bytes ++ line)))
room_of (later number s bytes) line = line-at-most number _ _ _
room_of stopped line = omega arith

-- What is left of a chunk from i on, where the next line ends at `end`.
module _ (p : Progress) (chunk : List ℕ) (i end room : ℕ) (h : i ≤ length chunk) (e : end ≡ line_end chunk i) where
  pub fed-line : end < length chunk → room_for p ≤ room
      → let line = take (end - i) (drop i chunk) in
      let next = ended (extended p line) in
      fed p (drop i chunk) room ≡ followed line next.text (fed next.progress (drop (end + 1) chunk) (room - length next.text))
  unfolding fed fed_lines
  fed-line l r = rw (lines_from chunk i end e h l, le-ltb room (room_for p) r)

  pub fed-full : end < length chunk → room < room_for p → fed p (drop i chunk) room ≡ record { progress = p; used = 0; text = [] }
  unfolding fed fed_lines
  fed-full l r = rw (lines_from chunk i end e h l, lt-ltb room (room_for p) r)

  pub fed-last : length chunk ≤ end
      → fed p (drop i chunk) room ≡ record { progress = kept (extended p (drop i chunk)); used = length (drop i chunk); text = [] }
  unfolding fed fed_lines
  fed-last l = rw (lines-last chunk i end e h l)

-- A session that has stopped uses everything and writes nothing.
stopped-lines : (lines : List (List ℕ)) (rest : List ℕ) (room : ℕ)
    → fed_lines stopped lines rest room ≡ record { progress = stopped; used = length (joined lines rest); text = [] }
unfolding fed_lines joined ended
stopped-lines [] rest room = refl
stopped-lines (line ∷ more) rest room =
    let n : suc (length line) + length (joined more rest) ≡ length (line ++ line_feed ∷ joined more rest) = omega (arith, length-append line (line_feed ∷ joined more rest)) in
    rw (le-ltb room 0 (omega arith), stopped-lines more rest (room - 0)) (λ k. record { progress = stopped; used = n k; text = [] })

pub fed-stopped : (chunk : List ℕ) (room : ℕ) → fed stopped chunk room ≡ record { progress = stopped; used = length chunk; text = [] }
unfolding fed
fed-stopped chunk room =
    stopped-lines (lines_in chunk).complete (lines_in chunk).rest room
    ∙ ap (λ (l : List ℕ). record { progress = stopped; used = length l; text = [] }) (lines-joined chunk)

-- No more is used than there is, and no more is written than there is room for.
lines-within : (p : Progress) (lines : List (List ℕ)) (rest : List ℕ) (room : ℕ)
    → ((fed_lines p lines rest room).used ≤ length (joined lines rest)) × (length (fed_lines p lines rest room).text ≤ room)
unfolding fed_lines joined
lines-within p [] rest room = omega arith
lines-within p (line ∷ more) rest room =
    let e = ended (extended p line) in
    go (ltb room (room_for p)) refl e (fed_lines e.progress more rest (room - length e.text)) (room_of p line) (lines-within e.progress more rest (room - length e.text))
  where
    go : (t : Bool) → ltb room (room_for p) ≡ t → (e : Ended) (f : Feeding) → length e.text ≤ room_for p
        → (f.used ≤ length (joined more rest)) × (length f.text ≤ room - length e.text)
        → let g = cond t (record { progress = p; used = 0; text = [] }) (followed line e.text f) in
        (g.used ≤ length (line ++ line_feed ∷ joined more rest)) × (length g.text ≤ room)
    go true q e f l h = omega arith
    go false q e f l h =
        omega (arith, ltb-false room (room_for p) q, length-append e.text f.text, length-append line (line_feed ∷ joined more rest))

-- A feeding of the whole chunk into the whole buffer, with what a caller needs to take parts.
pub fed-whole : (p : Progress) (chunk out : List ℕ) (r : Fed) (out' : List ℕ) → FedFrom 0 0 (fed p chunk (length out - 0)) r out out'
    → let f = fed p chunk (length out) in
    record {
      session : progress_of r.session ≡ f.progress;
      used : r.used ≡ f.used;
      wrote : r.wrote ≡ length f.text;
      out : out' ≡ sets out 0 f.text;
      bounds : Bounds r.used r.wrote chunk out';
    }
unfolding fed
fed-whole p chunk out r out' v =
    let room : length out - 0 ≡ length out = sub-zero (length out) in
    let w : FedFrom 0 0 (fed p chunk (length out)) r out out' = rw room at v in
    let f = fed p chunk (length out) in
    let b = lines-within p (lines_in chunk).complete (lines_in chunk).rest (length out) in
    let within : r.wrote ≤ length out' = omega (arith, w.wrote, ap length w.written, length-sets out 0 f.text, b.1) in record {
      session = w.progress;
      used = w.used ∙ zero-add f.used;
      wrote = w.wrote ∙ zero-add (length f.text);
      out = w.written;
      bounds = record {
        used-within = omega (arith, w.used, b.0, ap length (lines-joined chunk));
        wrote-within = within;
        wrote-taken = sym (length-take-le r.wrote out' within);
      };
    }

-- A feeding, and what an earlier one used and wrote before it.
abbrev pub after : ℕ → List ℕ → Feeding → Feeding
after used text f = record { progress = f.progress; used = used + f.used; text = text ++ f.text }

after_none : (f : Feeding) → f ≡ after 0 [] f
after_none f = let n : f.used ≡ 0 + f.used = omega arith in λ k. record { progress = f.progress; used = n k; text = f.text }

after-followed : (used : ℕ) (text line more : List ℕ) (f : Feeding)
    → after used text (followed line more f) ≡ after (used + suc (length line)) (text ++ more) f
after-followed used text line more f =
    let n : used + (suc (length line) + f.used) ≡ used + suc (length line) + f.used = omega arith in
    let t : text ++ (more ++ f.text) ≡ (text ++ more) ++ f.text = sym (append_assoc text more f.text) in
    λ k. record { progress = f.progress; used = n k; text = t k }

-- Of a feeding from a place on, the session is now p, at i of the chunk and o of the buffer.
pub record Feeds (p₀ : Progress) (chunk : List ℕ) (from : ℕ) (out₀ : List ℕ) (at : ℕ) (out : List ℕ) (p : Progress) (i o : ℕ) : Type 0 where
  pub used : ℕ
  pub text : List ℕ
  pub same : fed p₀ (drop from chunk) (length out₀ - at) ≡ after used text (fed p (drop i chunk) (length out₀ - o))
  pub place : (i ≡ from + used) × (i ≤ length chunk)
  pub wrote : (o ≡ at + length text) × (o ≤ length out₀)
  pub written : out ≡ sets out₀ at text

pub feeds-start : (p : Progress) (chunk : List ℕ) (from : ℕ) (out : List ℕ) (at : ℕ) → from ≤ length chunk → at ≤ length out
    → Feeds p chunk from out at out p from at
feeds-start p chunk from out at h k = record {
  used = 0;
  text = [];
  same = after_none (fed p (drop from chunk) (length out - at));
  place = omega arith;
  wrote = omega arith;
  written = refl;
}

module _ {p₀ : Progress} {chunk : List ℕ} {from : ℕ} {out₀ : List ℕ} {at : ℕ} {out : List ℕ} {p : Progress} {i o : ℕ} (w : Feeds p₀ chunk from out₀ at out p i o) where
  -- The buffer is as long as before.
  pub feeds-size : length out ≡ length out₀
  feeds-size = ap length w.written ∙ length-sets out₀ at w.text

  -- A line was ended, and its record written.
  pub feeds-line : (end : ℕ) → end ≡ line_end chunk i → end < length chunk → room_for p ≤ length out - o
      → {p' : Progress} {o' : ℕ} {out' : List ℕ}
      → let next = ended (extended p (take (end - i) (drop i chunk))) in
      p' ≡ next.progress → o' ≡ o + length next.text → out' ≡ sets out o next.text
      → Feeds p₀ chunk from out₀ at out' p' (end + 1) o'
  feeds-line end e l r {p'} {o'} {out'} progress wrote written =
      let line = take (end - i) (drop i chunk) in
      let next = ended (extended p line) in
      let size : length line ≡ end - i = length-take-le (end - i) (drop i chunk) (omega (arith, length-drop i chunk, end-within chunk i w.place.1)) in
      let left : length out₀ - o - length next.text ≡ length out₀ - o' = omega arith in
      record {
        used = w.used + suc (length line);
        text = w.text ++ next.text;
        same =
            w.same
            ∙ ap (after w.used w.text) (fed-line p chunk i end (length out₀ - o) w.place.1 e l (omega (arith, feeds-size)))
            ∙ after-followed w.used w.text line next.text _
            ∙ ap (λ (n : ℕ). after (w.used + suc (length line)) (w.text ++ next.text) (fed next.progress (drop (end + 1) chunk) n)) left
            ∙ ap (λ (q : Progress). after (w.used + suc (length line)) (w.text ++ next.text) (fed q (drop (end + 1) chunk) (length out₀ - o'))) (sym progress);
        place = omega (arith, size, w.place, end-within chunk i w.place.1);
        wrote = omega (arith, w.wrote, length-append w.text next.text, room_of p line, feeds-size);
        written = written ∙ rw (w.written, w.wrote.0) (sets-append w.text out₀ at next.text);
      }

  -- What follows is fed as well.
  pub feeds-then : (r : Fed) (out' : List ℕ) → FedFrom i o (fed p (drop i chunk) (length out - o)) r out out'
      → FedFrom from at (fed p₀ (drop from chunk) (length out₀ - at)) r out₀ out'
  feeds-then r out' v =
      let f = fed p (drop i chunk) (length out₀ - o) in
      let u : fed p (drop i chunk) (length out - o) ≡ f = ap (λ (n : ℕ). fed p (drop i chunk) (n - o)) feeds-size in
      rw w.same
      (record {
        progress = v.progress ∙ ap (λ (x : Feeding). x.progress) u;
        used = omega (arith, v.used, ap (λ (x : Feeding). x.used) u, w.place);
        wrote = omega (arith, v.wrote, ap (λ (x : Feeding). length x.text) u, w.wrote, length-append w.text f.text);
        written =
            v.written
            ∙ ap (λ (x : Feeding). sets out o x.text) u
            ∙ ap (λ (l : List ℕ). sets l o f.text) w.written
            ∙ ap (λ (n : ℕ). sets (sets out₀ at w.text) n f.text) w.wrote.0
            ∙ sets-append w.text out₀ at f.text;
      })

  -- There is too little room for the next record.
  pub feeds-full : (end : ℕ) → end ≡ line_end chunk i → end < length chunk → length out - o < room_for p → (r : Fed)
      → progress_of r.session ≡ p → r.used ≡ i → r.wrote ≡ o → FedFrom from at (fed p₀ (drop from chunk) (length out₀ - at)) r out₀ out
  feeds-full end e l m r progress used wrote =
      feeds-then r out
      (rw (fed-full p chunk i end (length out - o) w.place.1 e l m)
      (record { progress = progress; used = used ∙ sym (add-zero i); wrote = wrote ∙ sym (add-zero o); written = refl }))

  -- No line feed follows.
  pub feeds-last : (end : ℕ) → end ≡ line_end chunk i → length chunk ≤ end → (r : Fed)
      → progress_of r.session ≡ kept (extended p (drop i chunk)) → r.used ≡ end → r.wrote ≡ o
      → FedFrom from at (fed p₀ (drop from chunk) (length out₀ - at)) r out₀ out
  feeds-last end e l r progress used wrote =
      feeds-then r out
      (rw (fed-last p chunk i end (length out - o) w.place.1 e l)
      (record {
        progress = progress;
        used = omega (arith, used, length-drop i chunk, end-within chunk i w.place.1, w.place);
        wrote = wrote ∙ sym (add-zero o);
        written = refl;
      }))

  -- The session has stopped: all that is left is used.
  pub feeds-stopped : p ≡ stopped → (r : Fed) → progress_of r.session ≡ p → r.used ≡ length chunk → r.wrote ≡ o
      → FedFrom from at (fed p₀ (drop from chunk) (length out₀ - at)) r out₀ out
  feeds-stopped e r progress used wrote =
      let all : fed p (drop i chunk) (length out - o) ≡ record { progress = stopped; used = length (drop i chunk); text = [] } =
      ap (λ (q : Progress). fed q (drop i chunk) (length out - o)) e ∙ fed-stopped (drop i chunk) (length out - o) in
      feeds-then r out
      (rw all
      (record { progress = progress ∙ e; used = omega (arith, used, length-drop i chunk, w.place); wrote = wrote ∙ sym (add-zero o); written = refl }))
