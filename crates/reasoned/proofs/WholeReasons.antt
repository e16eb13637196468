-- However a script is cut into chunks, what is written of them is its listing with reasons. Assumes nothing.
use Rattle.std.specs.Prelude.{None, Option, Some}
use Rattle.std.proofs.Common.{◌≡◌, ℕ, List, [], ◌∷◌, ◌++◌, sym, refl, ap, ◌∙◌, append_assoc, append-nil}
use Rattle.chunk.proofs.ChunkLines.{joined as lines_joined, lines-joined}
use Rattle.listing.specs.Listing.{answered, number_after, state_by}
use Rattle.model.specs.State.{State}
use Rattle.reason.specs.ReasonedListing.{first_reason, later_reasoned, reasoned, reasoned_done, reasoned_from, reasoned_of, reasoned_refused}
use Rattle.reason.specs.Reasons.{reasoned_record}
use Rattle.records.specs.RecordTexts.{ended as with_feeds}
use Rattle.script.specs.EventForms.{line_event}
use Rattle.script.specs.First.{line_first}
use Rattle.script.specs.ListingLine.{line_feed}
use Rattle.script.specs.Records.{last_line, lines, lines_in}
use Rattle.session.proofs.WholeListing.{Plain, Plains, consumed-continued, continued_by, ended-twice, extended_none, line-continued, line-ended, lines-plain}
use Rattle.session.specs.Session.{Ended, Progress, begun, consumed, consumed_lines, ended, extended, first, kept, later, stopped}
use Rattle.reasoned.specs.ReasonedCuts.{CutInTwo, ReasonedWhole, ToldWhole, joined, told_all}
use Rattle.reasoned.specs.ReasonedSession.{first_text, last_told, line_text, told, told_lines}
use Rattle.reasoned.proofs.ReasonedLines.{text-kept, text-twice}

-- Bytes of a line, and then more of it.
told-continued : (p : Progress) (line : List ℕ) (complete : List (List ℕ)) (rest : List ℕ)
    → told_lines p (continued_by line complete rest).complete ≡ told_lines (kept (extended p line)) complete
unfolding told_lines
told-continued p line [] rest = refl
told-continued p line (next ∷ more) rest =
    ap (λ (l : List ℕ). l ++ told_lines (ended (extended p (line ++ next))).progress more) (sym (text-twice p line next))
    ∙ ap (λ (e : Ended). line_text (extended (kept (extended p line)) next) ++ told_lines e.progress more) (sym (ended-twice p line next))

-- Lines and what stands after them, and then more.
in_two : (ls : List (List ℕ)) (rest : List ℕ) → Plains ls → Plain rest → (p : Progress) (more : List ℕ)
    → ((consumed p (lines_joined ls rest ++ more)).progress ≡ (consumed (consumed_lines p ls rest).progress more).progress)
    × (told p (lines_joined ls rest ++ more) ≡ told_lines p ls ++ told (consumed_lines p ls rest).progress more)
unfolding consumed consumed_lines told told_lines lines_joined
in_two [] rest h k p more =
    rw (line-continued rest more k)
    (ap (λ (e : Ended). e.progress) (consumed-continued p rest (lines_in more).complete (lines_in more).rest), told-continued p rest (lines_in more).complete (lines_in more).rest)
in_two (line ∷ ls) rest h k p more =
    let e = ended (extended p line) in
    let later = in_two ls rest h.1 k e.progress more in
    rw (append_assoc line (line_feed ∷ lines_joined ls rest) more, line-ended line (lines_joined ls rest ++ more) h.0)
    (later.0, ap (λ (l : List ℕ). line_text (extended p line) ++ l) later.1 ∙ sym (append_assoc (line_text (extended p line)) (told_lines e.progress ls) _))

pub cut-in-two : CutInTwo
unfolding consumed told
cut-in-two p one two =
    let plain = lines-plain one in
    let both = rw (lines-joined one) at (in_two (lines_in one).complete (lines_in one).rest plain.0 plain.1 p two) in
    record { progress = both.0; text = both.1 }

-- At the end of the script only what is kept of a line counts.
last-kept : (p : Progress) → last_told (kept p) ≡ last_told p
last-kept (first []) = refl
last-kept (first (byte ∷ line)) = text-kept (first (byte ∷ line))
last-kept (later number s []) = refl
last-kept (later number s (byte ∷ line)) = text-kept (later number s (byte ∷ line))
last-kept stopped = refl

last_of : (p : Progress) (rest : List ℕ) → last_told (kept (extended p rest)) ≡ last_told (extended p rest)
last_of p rest = last-kept (extended p rest)

-- Later lines are written with their reasons; a session that has stopped writes nothing.
later-whole : (ls : List (List ℕ)) (rest : List ℕ) (number : ℕ) (s : State)
    → told_lines (later number s []) ls ++ last_told (consumed_lines (later number s []) ls rest).progress ≡ with_feeds (later_reasoned number s (ls ++ last_line rest))
unfolding told_lines consumed_lines later_reasoned ended line_text with_feeds
later-whole [] [] number s = refl
later-whole [] (byte ∷ rest) number s = last_of (later number s []) (byte ∷ rest)
later-whole (line ∷ ls) rest number s =
    let a = answered s (line_event line) in
    let record_of = reasoned_record number s (line_event line) in
    append_assoc (record_of ++ line_feed ∷ []) (told_lines (later (number_after number) a.next []) ls) _
    ∙ ap (λ (l : List ℕ). (record_of ++ line_feed ∷ []) ++ l) (later-whole ls rest (number_after number) a.next)
    ∙ append_assoc record_of (line_feed ∷ []) _

stopped-whole : (ls : List (List ℕ)) (rest : List ℕ) → told_lines stopped ls ++ last_told (consumed_lines stopped ls rest).progress ≡ []
unfolding told_lines consumed_lines ended line_text
stopped-whole [] rest = refl
stopped-whole (line ∷ ls) rest = stopped-whole ls rest

-- What a fresh session writes.
first-whole : (ls : List (List ℕ)) (rest : List ℕ)
    → told_lines (first []) ls ++ last_told (consumed_lines (first []) ls rest).progress ≡ with_feeds (reasoned_of (ls ++ last_line rest))
unfolding told_lines consumed_lines ended line_text
first-whole [] [] = refl
first-whole [] (byte ∷ rest) = last_of (first []) (byte ∷ rest) ∙ go (state_by (line_first (byte ∷ rest)))
  where
    go : (o : Option State) → first_text o (first_reason (line_first (byte ∷ rest))) ≡ with_feeds (reasoned_from o (first_reason (line_first (byte ∷ rest))) [])
    go None = refl
    go (Some s) = unfold with_feeds in (unfold later_reasoned in refl)
first-whole (line ∷ ls) rest = go (state_by (line_first line))
  where
    go : (o : Option State)
        → (first_text o (first_reason (line_first line)) ++ told_lines (begun o).progress ls) ++ last_told (consumed_lines (begun o).progress ls rest).progress
        ≡ with_feeds (reasoned_from o (first_reason (line_first line)) (ls ++ last_line rest))
    go None =
        append_assoc (with_feeds (reasoned_refused (first_reason (line_first line)) ∷ [])) (told_lines stopped ls) _
        ∙ ap (λ (l : List ℕ). with_feeds (reasoned_refused (first_reason (line_first line)) ∷ []) ++ l) (stopped-whole ls rest)
        ∙ append-nil (with_feeds (reasoned_refused (first_reason (line_first line)) ∷ []))
    go (Some s) =
        append_assoc (with_feeds (reasoned_done ∷ [])) (told_lines (later 1 s []) ls) _
        ∙ ap (λ (l : List ℕ). with_feeds (reasoned_done ∷ []) ++ l) (later-whole ls rest 1 s)
        ∙ (unfold with_feeds in (append_assoc reasoned_done (line_feed ∷ []) _))

pub told-whole : ToldWhole
unfolding told consumed reasoned lines
told-whole script = first-whole (lines_in script).complete (lines_in script).rest

-- In chunks.
told-all : (chunks : List (List ℕ)) (p : Progress) → told_all p chunks ≡ told p (joined chunks) ++ last_told (consumed p (joined chunks)).progress
unfolding told_all
told-all [] p = nothing
  where
    nothing : last_told p ≡ told p [] ++ last_told (consumed p []).progress
    nothing = unfold told in (unfold told_lines in (unfold consumed in (unfold consumed_lines in (unfold lines_in in
        (ap last_told (sym (extended_none p)) ∙ sym (last_of p []))))))
told-all (chunk ∷ more) p =
    let q = (consumed p chunk).progress in
    let two = cut-in-two p chunk (joined more) in
    ap (λ (l : List ℕ). told p chunk ++ l) (told-all more q)
    ∙ sym (append_assoc (told p chunk) (told q (joined more)) (last_told (consumed q (joined more)).progress))
    ∙ ap (λ (l : List ℕ). l ++ last_told (consumed q (joined more)).progress) (sym two.text)
    ∙ ap (λ (r : Progress). told p (chunk ++ joined more) ++ last_told r) (sym two.progress)

pub reasoned-whole : ReasonedWhole
reasoned-whole chunks = told-all chunks (first []) ∙ told-whole (joined chunks)
