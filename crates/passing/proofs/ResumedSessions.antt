-- A session that begins with records: what it is given, and what it writes. Assumes nothing.
use Rattle.std.specs.Prelude.{None, Option, Some}
use mathlib.Core.Bool.{Bool, true, false}
use mathlib.Core.List.{List, [], ◌∷◌, ◌++◌, append-nil}
use mathlib.Core.Path.{◌≡◌, refl, sym, ap, ◌∙◌}
use Prim.Native.Nat.{ℕ, min, ◌+◌, ◌≤◌, ◌<◌}
use borrow.Author.Tests.{leb-true, leb-false}
use native.Mathlib.Omega.{arith}
use lib.Dec.{leb}
use lib.ListN.{drop, length, length-append}
use lib.Seq.{drop_at, drop-length}
use Rattle.chunk.proofs.ChunkLines.{joined, lines-joined}
use Rattle.listing.specs.Listing.{first_done, first_refused, later_records}
use Rattle.model.specs.State.{State}
use Rattle.reader.proofs.Cut.{ended-append}
use Rattle.reader.proofs.Prefix.{Begins, accepts, begins, read-prefix, read_short}
use Rattle.reader.specs.Received.{Used, passed_in, state_in}
use Rattle.reader.specs.ReaderClaims.{goes_on}
use Rattle.reader.specs.declared.Received.{Received}
use Rattle.records.proofs.PlainStates.{small}
use Rattle.records.proofs.RecordLines.{some_same}
use Rattle.records.proofs.SameBytes.{only-records}
use Rattle.records.specs.Reading.{Passed, passed_on}
use Rattle.records.specs.RecordTexts.{ended, longest_text, record_lines, records_text}
use Rattle.script.specs.Records.{last_line, lines, lines_in}
use Rattle.state.specs.Lent.{machine_of}
use Rattle.session.proofs.WholeListing.{later-finished, stopped-finished}
use Rattle.session.specs.Session.{consumed, finished, later, stopped}
use Rattle.passing.specs.Passing.{resumed, resumed_from}
use Rattle.passing.specs.PassingSessions.{ResumedSession, opened, opened_by, resumed_text}

-- Lines with their line feeds have at most one byte more than the bytes that they are the lines of.
last-ended : (rest : List ℕ) → length (ended (last_line rest)) ≤ length rest + 1
unfolding ended
last-ended [] = omega arith
last-ended (byte ∷ rest) = omega (arith, length-append (byte ∷ rest) (10 ∷ []))

joined-ended : (complete : List (List ℕ)) (rest : List ℕ) → length (ended (complete ++ last_line rest)) ≤ length (joined complete rest) + 1
unfolding ended joined
joined-ended [] rest = last-ended rest
joined-ended (line ∷ complete) rest =
    omega (arith, length-append line (10 ∷ ended (complete ++ last_line rest)), length-append line (10 ∷ joined complete rest), joined-ended complete rest)

lines-ended : (bytes : List ℕ) → length (ended (lines bytes)) ≤ length bytes + 1
unfolding lines
lines-ended bytes = rw (lines-joined bytes) at (joined-ended (lines_in bytes).complete (lines_in bytes).rest)

none-ended : (ls : List (List ℕ)) → length (ended ls) < 1 → ls ≡ []
unfolding ended
none-ended [] h = refl
none-ended (line ∷ ls) h = absurd (omega (arith, length-append line (10 ∷ ended ls)))

no_lines : lines [] ≡ []
unfolding lines lines_in
no_lines = refl

-- What follows accepted records, in bytes.
pub rest_of : (input : List ℕ) (r : Passed) → passed_on (lines input) ≡ Some r
    → lines (drop (min (length (records_text r.state)) (length input)) input) ≡ r.rest
unfolding records_text
rest_of input r h = go (leb (length (records_text r.state)) (length input)) refl
  where
    n : ℕ
    n = length (records_text r.state)

    these : lines input ≡ record_lines r.state ++ r.rest
    these = (only-records input r h).these

    go : (b : Bool) → leb n (length input) ≡ b → lines (drop (min n (length input)) input) ≡ r.rest
    go true e =
        let within : n ≤ length input = leb-true n (length input) e in
        let b : Begins input (records_text r.state) = begins input (record_lines r.state) r.rest these within in
        let count : min n (length input) ≡ n = omega arith in
        let same : Some r ≡ Some (record { state = r.state; rest = lines b.tail }) =
        sym h ∙ ap (λ (l : List ℕ). passed_on (lines l)) b.same ∙ accepts input r h b.tail in
        ap (λ (k : ℕ). lines (drop k input)) count
        ∙ ap (λ (l : List ℕ). lines (drop n l)) b.same
        ∙ ap lines (drop_at (records_text r.state) b.tail n refl)
        ∙ sym (ap (λ (p : Passed). p.rest) (some_same same))
    go false e =
        let short : length input < n = leb-false n (length input) e in
        let count : min n (length input) ≡ length input = omega arith in
        let None : r.rest ≡ [] = none-ended r.rest
        (omega (arith, lines-ended input, ap (λ (l : List (List ℕ)). length (ended l)) these, ended-append (record_lines r.state) r.rest)) in
        ap (λ (k : ℕ). lines (drop k input)) count ∙ ap lines (drop-length input) ∙ no_lines ∙ sym None

-- What a session writes that goes on from line 1, and one that has stopped.
later-text : (s : State) (script : List ℕ) → finished (consumed (later 1 s []) script) ≡ later_records 1 s (lines script)
unfolding consumed lines
later-text s script = later-finished (lines_in script).complete (lines_in script).rest 1 s

stopped-text : (script : List ℕ) → finished (consumed stopped script) ≡ []
unfolding consumed
stopped-text script = stopped-finished (lines_in script).complete (lines_in script).rest

-- The records are refused, or accepted with the lines that follow.
refused-text : (start more : List ℕ) → passed_on (lines start) ≡ None → resumed_text start more ≡ first_refused
unfolding opened
refused-text start more e =
    rw e (ap (λ (l : List ℕ). first_refused ++ l) (stopped-text (drop (length start) start ++ more)) ∙ append-nil first_refused)

accepted-text : (start more : List ℕ) (r : Passed) → passed_on (lines start) ≡ Some r
    → resumed_text start more ≡ first_done ++ later_records 1 r.state (lines (drop (min (length (records_text r.state)) (length start)) start ++ more))
unfolding opened
accepted-text start more r e =
    rw e (ap (λ (l : List ℕ). first_done ++ l) (later-text r.state (drop (min (length (records_text r.state)) (length start)) start ++ more)))

resumed-whole : (input : List ℕ) → resumed_text input [] ≡ resumed input
unfolding resumed
resumed-whole input = go (passed_on (lines input)) refl
  where
    go : (o : Option Passed) → passed_on (lines input) ≡ o → resumed_text input [] ≡ resumed_from o
    go None e = refused-text input [] e
    go (Some r) e =
        let rest = drop (min (length (records_text r.state)) (length input)) input in
        accepted-text input [] r e
        ∙ ap (λ (l : List (List ℕ)). first_done ++ later_records 1 r.state l) (ap lines (append-nil rest) ∙ rest_of input r e)

resumed-begun : (start more : List ℕ) → longest_text ≤ length start → resumed_text start more ≡ resumed (start ++ more)
unfolding resumed
resumed-begun start more big = go (passed_on (lines start)) refl ∙ sym (ap resumed_from (read-prefix start more big))
  where
    go : (o : Option Passed) → passed_on (lines start) ≡ o → resumed_text start more ≡ resumed_from (goes_on start more (passed_on (lines start)))
    go None e = rw e (refused-text start more e)
    go (Some r) e =
        let n = length (records_text r.state) in
        let all : min n (length start) ≡ n = omega (arith, read_short start r e) in
        rw e (accepted-text start more r e ∙ ap (λ (k : ℕ). first_done ++ later_records 1 r.state (lines (drop k start ++ more))) all)

pub resumed-session : ResumedSession
resumed-session = record { whole = resumed-whole; begun = resumed-begun }

-- What was read, and the session that begins with it.
module _ (read : Option Received) (input : List ℕ) (passed : passed_in read input ≡ passed_on (lines input)) where
  pub opened-refused : read ≡ None → opened input ≡ opened_by input None
  unfolding opened
  opened-refused e = let nothing : passed_in read input ≡ None = rw e in ap (opened_by input) (sym passed ∙ nothing)

  module _ (r : Received) (e : read ≡ Some r) where
    accepted : passed_on (lines input) ≡ Some (record { state = state_in r; rest = lines (drop r.used input) })
    accepted = sym passed ∙ rw e

    used-is : Used read input → r.used ≡ min (length (records_text (state_in r))) (length input)
    used-is used = rw e at used

    pub opened-done : Used read input → opened input ≡ record { progress = later 1 (state_in r) []; used = r.used; text = first_done }
    unfolding opened
    opened-done used =
        ap (opened_by input) accepted ∙ ap (λ (n : ℕ). record { progress = later 1 (state_in r) []; used = n; text = first_done }) (sym (used-is used))

    pub used-within : Used read input → r.used ≤ length input
    used-within used = omega (arith, used-is used)

    pub few-pages : r.setup.pages ≤ 64
    unfolding machine_of
    few-pages = (small (state_in r) (only-records input _ accepted).formed).pages
