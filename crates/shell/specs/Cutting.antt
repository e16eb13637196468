-- An input in two pieces, and a piece of an input that is fed. Assumes nothing.
use Rattle.std.proofs.Common.{◌≡◌, ℕ, List, [], ◌∷◌, ◌++◌, take, sym, refl, ap, ◌∙◌, append_assoc, append-nil}
use Rattle.chunk.proofs.ChunkLines.{joined, lines-joined}
use Rattle.script.specs.ListingLine.{line_feed}
use Rattle.script.specs.Records.{lines_in}
use Rattle.session.proofs.Callers.{reached-session}
use Rattle.session.proofs.WholeListing.{Plain, Plains, after-twice, consumed-continued, consumed-fed, line-continued, line-ended, lines-plain}
use Rattle.session.specs.Calls.{Reached}
use Rattle.session.specs.Session.{Ended, Progress, after, consumed, consumed_lines, ended, extended, fed, progress_of, stopped}
use Rattle.session.specs.declared.Session.{Session}

-- Lines and what stands after them, and then more.
in_two : (ls : List (List ℕ)) (rest : List ℕ) → Plains ls → Plain rest → (p : Progress) (more : List ℕ)
    → consumed p (joined ls rest ++ more) ≡ after (consumed_lines p ls rest).text (consumed (consumed_lines p ls rest).progress more)
unfolding consumed consumed_lines joined
in_two [] rest h k p more =
    rw (line-continued rest more k) (consumed-continued p rest (lines_in more).complete (lines_in more).rest)
in_two (line ∷ ls) rest h k p more =
    let e = ended (extended p line) in
    let r = consumed_lines e.progress ls rest in
    rw (append_assoc line (line_feed ∷ joined ls rest) more, line-ended line (joined ls rest ++ more) h.0)
    (ap (after e.text) (in_two ls rest h.1 k e.progress more) ∙ after-twice e.text r.text (consumed r.progress more))

-- Two pieces, one after the other, leave and write what both together do.
pub cut-in-two : (p : Progress) (one two : List ℕ) → consumed p (one ++ two) ≡ after (consumed p one).text (consumed (consumed p one).progress two)
unfolding consumed
cut-in-two p one two =
    let plain = lines-plain one in
    rw (lines-joined one) at (in_two (lines_in one).complete (lines_in one).rest plain.0 plain.1 p two)

pub progress-joins : (p : Progress) (one two : List ℕ) → (consumed p (one ++ two)).progress ≡ (consumed (consumed p one).progress two).progress
progress-joins p one two = ap (λ (e : Ended). e.progress) (cut-in-two p one two)

-- So a session that has used an input has reached where it is.
pub reached-by : {p q : Progress} (input : List ℕ) → q ≡ (consumed p input).progress → Reached p input (consumed p input).text q
reached-by {p} {q} input e = record {
  then = λ more. cut-in-two p input more ∙ ap (λ (x : Progress). after (consumed p input).text (consumed x more)) (sym e);
}

-- After a refused first line nothing more is written, and the session stays.
stopped-lines : (ls : List (List ℕ)) (rest : List ℕ) → consumed_lines stopped ls rest ≡ record { progress = stopped; text = [] }
unfolding consumed_lines ended
stopped-lines [] rest = refl
stopped-lines (line ∷ ls) rest = ap (after []) (stopped-lines ls rest)

pub consumed-stopped : (chunk : List ℕ) → consumed stopped chunk ≡ record { progress = stopped; text = [] }
unfolding consumed
consumed-stopped chunk = stopped-lines (lines_in chunk).complete (lines_in chunk).rest

-- ---- the laws of the listing

pub listing-nothing : (p : Progress) → (consumed p []).text ≡ []
unfolding consumed consumed_lines lines_in
listing-nothing p = refl

pub listing-joins : (p : Progress) (one two : List ℕ) → (consumed p (one ++ two)).text ≡ (consumed p one).text ++ (consumed (consumed p one).progress two).text
listing-joins p one two = ap (λ (e : Ended). e.text) (cut-in-two p one two)

pub listing-silent : (chunk : List ℕ) → (consumed stopped chunk).text ≡ []
listing-silent chunk = ap (λ (e : Ended). e.text) (consumed-stopped chunk)

-- ---- a piece that is fed

pub fed-text : (p : Progress) (chunk : List ℕ) (room : ℕ) → (fed p chunk room).text ≡ (consumed p (take (fed p chunk room).used chunk)).text
fed-text p chunk room =
    let f = fed p chunk room in
    sym (
    ap (λ (l : List ℕ). (consumed p l).text) (sym (append-nil (take f.used chunk)))
    ∙ ap (λ (e : Ended). e.text) (consumed-fed p chunk room [])
    ∙ ap (λ (l : List ℕ). f.text ++ l) (listing-nothing f.progress)
    ∙ append-nil f.text
    )

pub fed-progress : (s : Session) (p : Progress) (chunk : List ℕ) (room : ℕ) → progress_of s ≡ (fed p chunk room).progress
    → progress_of s ≡ (consumed p (take (fed p chunk room).used chunk)).progress
fed-progress s p chunk room e =
    reached-session {p = p} {input = take (fed p chunk room).used chunk} {text = (fed p chunk room).text} s (rw e (record { then = λ more. consumed-fed p chunk room more }))
