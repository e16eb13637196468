-- However a script is cut into chunks, and whatever room the buffers have, what is written is the listing of the whole.
-- Assumes nothing.
use Rattle.std.specs.Prelude.{None, Option, Some}
use Rattle.std.proofs.Common.{◌≡◌, ℕ, zero, suc, ◌+◌, ◌-◌, ◌≤◌, Bool, true, false, cond, eqb, ltb, List, [], ◌∷◌, ◌++◌, length, take, sym, refl, ap, ◌∙◌, append_assoc, append-nil, arith, le-ltb, ne_eqb}
use lib.Seq.{take-append-add, take-length}
use Rattle.model.specs.State.{State}
use Rattle.script.specs.Bytes.{same}
use Rattle.script.specs.EventForms.{line_event}
use Rattle.script.specs.First.{line_first}
use Rattle.script.specs.LineForms.{among, fields, numbers_in, said}
use Rattle.chunk.specs.Chunk.{kept_bytes}
use Rattle.script.specs.ListingLine.{line_feed, longest_record}
use Rattle.session.specs.Calls.{Consumed, Cut, Reached, Whole, calls}
use Rattle.listing.specs.Listing.{answered, first_done, later_records, listing, listing_from, listing_of, number_after, record_of, state_by}
use Rattle.script.specs.Records.{Lines, in_front, last_line, lines, lines_in}
use Rattle.session.specs.Session.{Ended, Feeding, Progress, after, begun, consumed, consumed_lines, ended, extended, fed, fed_lines, finished, first, followed, kept, last_ended, last_text, later, room_for, stopped}
use Rattle.chunk.proofs.ChunkLines.{joined, lines-joined, with_line}
use Rattle.session.proofs.Ending.{ended-kept}

-- Bytes with no line feed among them, and lines of such bytes.
abbrev pub Plain : List ℕ → Type 0
Plain [] = Unit {0}
Plain (byte ∷ bytes) = (eqb byte line_feed ≡ false) × Plain bytes

abbrev pub Plains : List (List ℕ) → Type 0
Plains [] = Unit {0}
Plains (line ∷ more) = Plain line × Plains more

pub lines-plain : (bytes : List ℕ) → Plains (lines_in bytes).complete × Plain (lines_in bytes).rest
unfolding lines_in
lines-plain [] = (tt, tt)
lines-plain (byte ∷ bytes) = go (eqb byte line_feed) refl (lines_in bytes).complete (lines_in bytes).rest (lines-plain bytes)
  where
    go : (t : Bool) → eqb byte line_feed ≡ t → (complete : List (List ℕ)) (rest : List ℕ) → Plains complete × Plain rest
        → let l = cond t (record { complete = [] ∷ complete; rest = rest }) (in_front byte complete rest) in Plains l.complete × Plain l.rest
    go true e complete rest h = ((tt, h.0), h.1)
    go false e [] rest h = (tt, (e, h.1))
    go false e (line ∷ more) rest h = (((e, h.0.0), h.0.1), h.1)

-- Lines with such bytes before them: a line feed after the bytes ends a line, and else they belong to the first line.
pub line-ended : (line bytes : List ℕ) → Plain line → lines_in (line ++ line_feed ∷ bytes) ≡ with_line line (lines_in bytes)
unfolding lines_in
line-ended [] bytes h = refl
line-ended (byte ∷ line) bytes h = rw (h.0, line-ended line bytes h.1)

abbrev pub continued_by : List ℕ → List (List ℕ) → List ℕ → Lines
continued_by line [] rest = record { complete = []; rest = line ++ rest }
continued_by line (next ∷ more) rest = record { complete = (line ++ next) ∷ more; rest = rest }

pub line-continued : (line bytes : List ℕ) → Plain line → lines_in (line ++ bytes) ≡ continued_by line (lines_in bytes).complete (lines_in bytes).rest
unfolding lines_in
line-continued [] bytes h = go (lines_in bytes).complete (lines_in bytes).rest
  where
    go : (complete : List (List ℕ)) (rest : List ℕ) → record { complete = complete; rest = rest } ≡ continued_by [] complete rest
    go [] rest = refl
    go (next ∷ more) rest = refl
line-continued (byte ∷ line) bytes h = rw (h.0, line-continued line bytes h.1) (go (lines_in bytes).complete (lines_in bytes).rest)
  where
    go : (complete : List (List ℕ)) (rest : List ℕ)
        → in_front byte (continued_by line complete rest).complete (continued_by line complete rest).rest ≡ continued_by (byte ∷ line) complete rest
    go [] rest = refl
    go (next ∷ more) rest = refl

-- Only what is kept of a line counts.
take-kept : (n : ℕ) (a b : List ℕ) → take n (take n a ++ b) ≡ take n (a ++ b)
take-kept zero a b = refl
take-kept (suc n) [] b = refl
take-kept (suc n) (x ∷ a) b = ap (λ (l : List ℕ). x ∷ l) (take-kept n a b)

kept-extended : (p : Progress) (more : List ℕ) → kept (extended (kept p) more) ≡ kept (extended p more)
kept-extended (first line) more = ap first (take-kept kept_bytes line more)
kept-extended (later number s line) more = ap (later number s) (take-kept kept_bytes line more)
kept-extended stopped more = refl

extended-twice : (p : Progress) (line more : List ℕ) → extended (extended p line) more ≡ extended p (line ++ more)
extended-twice (first bytes) line more = ap first (append_assoc bytes line more)
extended-twice (later number s bytes) line more = ap (later number s) (append_assoc bytes line more)
extended-twice stopped line more = refl

pub kept-twice : (p : Progress) (line more : List ℕ) → kept (extended (kept (extended p line)) more) ≡ kept (extended p (line ++ more))
kept-twice p line more = kept-extended (extended p line) more ∙ ap kept (extended-twice p line more)

pub ended-twice : (p : Progress) (line more : List ℕ) → ended (extended (kept (extended p line)) more) ≡ ended (extended p (line ++ more))
ended-twice p line more =
    sym (ended-kept (extended (kept (extended p line)) more)) ∙ ap ended (kept-twice p line more) ∙ ended-kept (extended p (line ++ more))

pub extended_none : (p : Progress) → extended p [] ≡ p
extended_none (first line) = ap first (append-nil line)
extended_none (later number s line) = ap (later number s) (append-nil line)
extended_none stopped = refl

-- At the end of the input a line that has bytes is ended, and only what is kept of it counts.
pub last-bytes : (number : ℕ) (s : State) (byte : ℕ) (line : List ℕ) → last_ended (later number s (byte ∷ line)) ≡ ended (later number s (byte ∷ line))
last-bytes number s byte line = rw (ne_eqb (suc (length line)) 0 (λ z. omega arith))

pub last-kept : (p : Progress) → last_ended (kept p) ≡ last_ended p
last-kept (first line) = ended-kept (first line)
last-kept (later number s []) = refl
last-kept (later number s (byte ∷ line)) =
    last-bytes number s byte (take 256 line) ∙ ended-kept (later number s (byte ∷ line)) ∙ sym (last-bytes number s byte line)
last-kept stopped = refl

-- Bytes of a line, and then more of it.
pub consumed-continued : (p : Progress) (line : List ℕ) (complete : List (List ℕ)) (rest : List ℕ)
    → let l = continued_by line complete rest in consumed_lines p l.complete l.rest ≡ consumed_lines (kept (extended p line)) complete rest
unfolding consumed_lines
consumed-continued p line [] rest = ap (λ (q : Progress). record { progress = q; text = [] }) (sym (kept-twice p line rest))
consumed-continued p line (next ∷ more) rest = ap (λ (e : Ended). after e.text (consumed_lines e.progress more rest)) (sym (ended-twice p line next))

pub after-twice : (text more : List ℕ) (e : Ended) → after text (after more e) ≡ after (text ++ more) e
after-twice text more e = ap (λ (l : List ℕ). record { progress = e.progress; text = l }) (sym (append_assoc text more e.text))

-- A call writes the start of what there is to write, and leaves the rest.
consumed-fed-lines : (ls : List (List ℕ)) (rest : List ℕ) → Plains ls → Plain rest → (p : Progress) (room : ℕ) (more : List ℕ)
    → let f = fed_lines p ls rest room in consumed p (take f.used (joined ls rest) ++ more) ≡ after f.text (consumed f.progress more)
unfolding consumed consumed_lines fed_lines joined
consumed-fed-lines [] rest h k p room more =
    rw (take-length rest, line-continued rest more k) (consumed-continued p rest (lines_in more).complete (lines_in more).rest)
consumed-fed-lines (line ∷ ls) rest h k p room more =
    let e = ended (extended p line) in
    go (ltb room (room_for p)) (fed_lines e.progress ls rest (room - length e.text)) (consumed-fed-lines ls rest h.1 k e.progress (room - length e.text) more)
  where
    go : (t : Bool) (f : Feeding) → consumed (ended (extended p line)).progress (take f.used (joined ls rest) ++ more) ≡ after f.text (consumed f.progress more)
        → let g = cond t (record { progress = p; used = 0; text = [] }) (followed line (ended (extended p line)).text f) in
        consumed p (take g.used (line ++ line_feed ∷ joined ls rest) ++ more) ≡ after g.text (consumed g.progress more)
    go true f x = refl
    go false f x =
        let n : suc (length line) + f.used ≡ length line + suc f.used = omega arith in
        rw (n, take-append-add line (line_feed ∷ joined ls rest) (suc f.used), append_assoc line (line_feed ∷ take f.used (joined ls rest)) more, line-ended line (take f.used (joined ls rest) ++ more) h.0, x)
        (after-twice (ended (extended p line)).text f.text (consumed f.progress more))

pub consumed-fed : (p : Progress) (chunk : List ℕ) (room : ℕ) (more : List ℕ)
    → let f = fed p chunk room in consumed p (take f.used chunk ++ more) ≡ after f.text (consumed f.progress more)
unfolding fed
consumed-fed p chunk room more =
    let plain = lines-plain chunk in
    rw (lines-joined chunk) at (consumed-fed-lines (lines_in chunk).complete (lines_in chunk).rest plain.0 plain.1 p room more)

-- A run of calls does the same.
pub cut : Cut
unfolding calls
cut [] p = record { then = λ more. refl }
cut (call ∷ run) p = record {
  then = λ more.
      let f = fed p call.chunk call.room in
      let c = calls f.progress run in
      ap (consumed p) (append_assoc (take f.used call.chunk) c.input more)
      ∙ consumed-fed p call.chunk call.room (c.input ++ more)
      ∙ ap (after f.text) ((cut run f.progress).then more)
      ∙ after-twice f.text c.output (consumed c.progress more);
}

-- Nothing more is consumed.
finished-none : (p : Progress) → finished (consumed p []) ≡ last_text p
unfolding consumed consumed_lines lines_in
finished-none p = ap (λ (q : Progress). last_text (kept q)) (extended_none p) ∙ ap (λ (e : Ended). e.text) (last-kept p)

-- What a session writes for later lines is their records; one that has stopped writes nothing.
pub finished-after : (text : List ℕ) (e : Ended) → finished (after text e) ≡ text ++ finished e
finished-after text e = append_assoc text e.text (last_text e.progress)

pub later-finished : (ls : List (List ℕ)) (rest : List ℕ) (number : ℕ) (s : State) → finished (consumed_lines (later number s []) ls rest) ≡ later_records number s (ls ++ last_line rest)
unfolding consumed_lines later_records ended
later-finished [] [] number s = refl
later-finished [] (byte ∷ rest) number s =
    ap (λ (e : Ended). e.text) (last-kept (later number s (byte ∷ rest)) ∙ last-bytes number s byte rest) ∙ sym (append-nil _)
later-finished (line ∷ ls) rest number s =
    let a = answered s (line_event line) in
    finished-after (record_of number a) (consumed_lines (later (number_after number) a.next []) ls rest)
    ∙ ap (λ (l : List ℕ). record_of number a ++ l) (later-finished ls rest (number_after number) a.next)

pub stopped-finished : (ls : List (List ℕ)) (rest : List ℕ) → finished (consumed_lines stopped ls rest) ≡ []
unfolding consumed_lines ended
stopped-finished [] rest = refl
stopped-finished (line ∷ ls) rest = stopped-finished ls rest

-- What a fresh session writes is the listing.
first-finished : (ls : List (List ℕ)) (rest : List ℕ) → finished (consumed_lines (first []) ls rest) ≡ listing_of (ls ++ last_line rest)
unfolding consumed_lines ended later_records line_first said among fields numbers_in same
first-finished [] [] = refl
first-finished [] (byte ∷ rest) = ap (λ (e : Ended). e.text) (ended-kept (first (byte ∷ rest))) ∙ go (state_by (line_first (byte ∷ rest)))
  where
    go : (o : Option State) → (begun o).text ≡ listing_from o []
    go None = refl
    go (Some s) = sym (append-nil first_done)
first-finished (line ∷ ls) rest = go (state_by (line_first line))
  where
    go : (o : Option State) → finished (after (begun o).text (consumed_lines (begun o).progress ls rest)) ≡ listing_from o (ls ++ last_line rest)
    go None = finished-after (begun None).text (consumed_lines stopped ls rest) ∙ ap (λ (l : List ℕ). (begun None).text ++ l) (stopped-finished ls rest) ∙ append-nil (begun None).text
    go (Some s) = finished-after first_done (consumed_lines (later 1 s []) ls rest) ∙ ap (λ (l : List ℕ). first_done ++ l) (later-finished ls rest 1 s)

pub listing-consumed : Consumed
unfolding consumed listing lines
listing-consumed script = first-finished (lines_in script).complete (lines_in script).rest

-- However a session is fed, what is written and what `finish` then adds is what it writes of the input.
pub reached-finished : {p q : Progress} {text : List ℕ} (input : List ℕ) → Reached p input text q → text ++ last_text q ≡ finished (consumed p input)
reached-finished {p} {q} {text} input w =
    ap (λ (l : List ℕ). text ++ l) (sym (finished-none q))
    ∙ sym (finished-after text (consumed q []))
    ∙ ap finished (sym (w.then []))
    ∙ ap (λ (l : List ℕ). finished (consumed p l)) (append-nil input)

pub whole : Whole
whole run = let c = calls (first []) run in reached-finished c.input (cut run (first [])) ∙ listing-consumed c.input

-- Where the longest record has room, something of a chunk is used.
room-at-most : (p : Progress) → room_for p ≤ longest_record
room-at-most (first line) = omega arith
room-at-most (later number s line) = omega arith
room-at-most stopped = omega arith

some-lines-used : (ls : List (List ℕ)) (rest : List ℕ) (p : Progress) (room : ℕ) → longest_record ≤ room → 1 ≤ length (joined ls rest) → 1 ≤ (fed_lines p ls rest room).used
unfolding fed_lines joined
some-lines-used [] rest p room h n = n
some-lines-used (line ∷ ls) rest p room h n = rw (le-ltb room (room_for p) (omega (arith, room-at-most p))) (omega arith)

pub some-used : (p : Progress) (chunk : List ℕ) (room : ℕ) → longest_record ≤ room → 1 ≤ length chunk → 1 ≤ (fed p chunk room).used
unfolding fed
some-used p chunk room h n = some-lines-used (lines_in chunk).complete (lines_in chunk).rest p room h (rw (lines-joined chunk) n)
