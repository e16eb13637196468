-- For callers: an input that is fed piece by piece, each time what is left of it, until all is used. Assumes nothing.
use Rattle.std.proofs.Common.{◌≡◌, ℕ, ◌+◌, ◌-◌, ◌<◌, ◌≤◌, min, List, [], ◌++◌, length, take, drop, sym, refl, ap, ◌∙◌, append_assoc, append-nil, arith, length-drop, length-take, take_all, take_at, take-add}
use borrow.Rule.Slice.PartMut.{mid_of}
use lib.Seq.{length-sets, sets, sets-eq}
use Rattle.chunk.specs.Chunk.{held, kept_bytes}
use Rattle.script.specs.ListingLine.{longest_record}
use Rattle.session.specs.Calls.{Reached}
use Rattle.session.specs.Session.{Ended, Progress, after, consumed, consumed_lines, fed, first, kept, later, progress_in, progress_of, state_in}
use Rattle.session.specs.declared.Phase.{Phase}
use Rattle.session.specs.declared.Phase.TheVariants as phase
use Rattle.session.specs.declared.Session.{Session}
use Rattle.script.specs.Records.{lines_in}
use Rattle.session.proofs.WholeListing.{after-twice, consumed-fed, extended_none, some-used}

-- What is left from a place on, as the code takes it.
pub part-whole : (l : List ℕ) (at : ℕ) → mid_of at (length l - at) l ≡ drop at l
part-whole l at = take_all (length l - at) (drop at l) (omega (arith, length-drop at l))

-- A text at the start of a buffer is taken from there.
pub front : (buffer text : List ℕ) (n : ℕ) → n ≡ length text → n ≤ length (sets buffer 0 text) → take n (sets buffer 0 text) ≡ text
front buffer text n e h =
    rw (sets-eq text buffer 0 (omega (arith, length-sets buffer 0 text))) (take_at text (drop (0 + length text) buffer) n (sym e))

-- With room for the longest record every piece uses something, and no more than is left.
pub moves : (p : Progress) (input : List ℕ) (at used room : ℕ) → let rest = mid_of at (length input - at) input in
    used ≡ (fed p rest room).used → used ≤ length rest → longest_record ≤ room → at < length input → (at < at + used) × (at + used ≤ length input)
moves p input at used room uses within roomy inside =
    let rest = mid_of at (length input - at) input in
    let size : length rest ≡ length input - at = ap length (part-whole input at) ∙ length-drop at input in
    omega (arith, some-used p rest room roomy (omega arith))

-- Before the first piece, and after one more.
pub reached-start : (p : Progress) → Reached p [] [] p
reached-start p = record { then = λ more. refl }

pub reached-fed : {p q : Progress} {text : List ℕ} (input : List ℕ) (at room : ℕ) → Reached p (take at input) text q
    → let f = fed q (mid_of at (length input - at) input) room in Reached p (take (at + f.used) input) (text ++ f.text) f.progress
reached-fed {p} {q} {text} input at room w = rw (part-whole input at) (record {
  then = λ more.
      let f = fed q (drop at input) room in
      ap (λ (l : List ℕ). consumed p (l ++ more)) (take-add at f.used input)
      ∙ ap (consumed p) (append_assoc (take at input) (take f.used (drop at input)) more)
      ∙ w.then (take f.used (drop at input) ++ more)
      ∙ ap (after text) (consumed-fed q (drop at input) room more)
      ∙ after-twice text f.text (consumed f.progress more);
})

-- Where a session has come. It keeps no more bytes of a line than are kept.
kept-session : (s : Session) → kept (progress_of s) ≡ progress_of s
kept-session s = go s.phase
  where
    line : List ℕ
    line = held s.line.buffer s.line.length

    short : take kept_bytes line ≡ line
    short = take_all kept_bytes line (omega (arith, length-take (min s.line.length kept_bytes) s.line.buffer))

    go : (p : Phase) → kept (progress_in p s.number (state_in s) line) ≡ progress_in p s.number (state_in s) line
    go phase.First = ap first short
    go phase.Later = ap (later s.number (state_in s)) short
    go phase.Stopped = refl

pub reached-session : {p : Progress} {input text : List ℕ} (s : Session) → Reached p input text (progress_of s) → progress_of s ≡ (consumed p input).progress
unfolding consumed consumed_lines lines_in
reached-session {p} {input} s w =
    sym (ap kept (extended_none (progress_of s)) ∙ kept-session s)
    ∙ sym (ap (λ (e : Ended). e.progress) (w.then []))
    ∙ ap (λ (l : List ℕ). (consumed p l).progress) (append-nil input)
