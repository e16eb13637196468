-- An input of more than 66,049 bytes is refused: its records are short, so a line behind them is too long, or there are too many.
-- Assumes nothing.
use Rattle.std.specs.Prelude.{None, Option, Result, Some}
use mathlib.Core.Bool.{Bool, true, false}
use mathlib.Core.List.{List, [], ◌∷◌, ◌++◌}
use mathlib.Core.Path.{◌≡◌, refl, ap}
use Prim.Native.Nat.{ℕ, ◌≤◌, ◌<◌}
use borrow.Author.Tests.{lt-leb, lt-ltb, ltb-false, ltb-true}
use native.Mathlib.Omega.{arith}
use lib.Dec.{eqb, ltb}
use lib.ListN.{length, length-append}
use Rattle.chunk.proofs.ChunkLines.{joined, lines-joined}
use Rattle.listing.specs.Listing.{answered}
use Rattle.model.specs.Answers.{number_of}
use Rattle.model.specs.State.{State}
use Rattle.reader.proofs.Cut.{ended-append}
use Rattle.reader.proofs.Prefix.{read_short}
use Rattle.records.proofs.SameBytes.{only-records}
use Rattle.records.specs.Reading.{Passed, passed_on}
use Rattle.records.specs.RecordTexts.{ended, record_lines, records_text}
use Rattle.script.specs.EventForms.{line_event}
use Rattle.script.specs.LineForms.{said}
use Rattle.script.specs.Records.{last_line, lines, lines_in}
use Rattle.sheet.specs.SheetForms.{good_form}
use Rattle.sheet.specs.Sheets.{Explanation}
use Rattle.sheet.specs.Verdicts.{refusal, verdict, verdict_lines}
use Rattle.asked.specs.AskedAccess.{asked_by}
use Rattle.inquiry.specs.Inquiry.{LongRefused, explained, of_asked, of_line, of_lines, of_passed, sheet_with}
use Rattle.asked.specs.declared.Asked.{Asked}
use Rattle.inquiry.proofs.AccessLines.{either_way}
use Rattle.model.specs.declared.answer.Refusal.{Refusal}
use Rattle.model.specs.declared.event.Event.{Event}

-- Bytes have no more than their lines, each with its line feed.
last-long : (rest : List ℕ) → length rest ≤ length (ended (last_line rest))
unfolding ended
last-long [] = omega arith
last-long (byte ∷ rest) = omega (arith, length-append (byte ∷ rest) (10 ∷ []))

joined-long : (complete : List (List ℕ)) (rest : List ℕ) → length (joined complete rest) ≤ length (ended (complete ++ last_line rest))
unfolding ended joined
joined-long [] rest = last-long rest
joined-long (line ∷ complete) rest =
    omega (arith, length-append line (10 ∷ ended (complete ++ last_line rest)), length-append line (10 ∷ joined complete rest), joined-long complete rest)

lines_long : (bytes : List ℕ) → length bytes ≤ length (ended (lines bytes))
unfolding lines
lines_long bytes = rw (lines-joined bytes) at (joined-long (lines_in bytes).complete (lines_in bytes).rest)

-- A line that is too long says nothing, and a sheet that is too long has no good form.
long-line : (line : List ℕ) → 256 < length line → asked_by (line_event line) ≡ None
unfolding line_event said
long-line line h = rw (lt-ltb 256 (length line) h)

long-sheet : (e : Explanation) (sheet : List ℕ) → 256 < length sheet → verdict e sheet ≡ ended refusal
unfolding verdict verdict_lines good_form
long-sheet e sheet h = rw (lt-leb (length sheet) 256 h)

-- Whatever a line asks for, it is refused where what follows is.
refused-with : (s : State) (a : Option Asked) (more : List (List ℕ)) → ((e : Explanation) → sheet_with e more ≡ ended refusal) → of_asked s a more ≡ ended refusal
refused-with s None more h = refl
refused-with s (Some q) more h = h _

refused-line : (s : State) (said : Result Event Refusal) (more : List (List ℕ)) → of_asked s (asked_by said) more ≡ ended refusal → of_line s said more ≡ ended refusal
refused-line s said more h = rw h (either_way (eqb (number_of (answered s said).answer) 1))

-- Many bytes behind the records.
many : (s : State) (rest : List (List ℕ)) → 514 < length (ended rest) → of_lines s rest ≡ ended refusal
unfolding ended
many s [] h = refl
many s (line ∷ []) h = refused-line s (line_event line) [] (rw (long-line line (omega (arith, length-append line (10 ∷ [])))))
many s (line ∷ sheet ∷ []) h = refused-line s (line_event line) (sheet ∷ []) (go (ltb 256 (length line)) refl)
  where
    go : (b : Bool) → ltb 256 (length line) ≡ b → of_asked s (asked_by (line_event line)) (sheet ∷ []) ≡ ended refusal
    go true e = rw (long-line line (ltb-true 256 (length line) e))
    go false e =
        let short = ltb-false 256 (length line) e in
        let long : 256 < length sheet = omega (arith, length-append line (10 ∷ sheet ++ 10 ∷ []), length-append sheet (10 ∷ [])) in
        refused-with s (asked_by (line_event line)) (sheet ∷ []) (λ e. long-sheet e sheet long)
many s (line ∷ sheet ∷ next ∷ more) h =
    refused-line s (line_event line) (sheet ∷ next ∷ more) (refused-with s (asked_by (line_event line)) (sheet ∷ next ∷ more) (λ e. refl))

pub long-refused : LongRefused
unfolding explained records_text
long-refused input long = go (passed_on (lines input)) refl
  where
    go : (o : Option Passed) → passed_on (lines input) ≡ o → of_passed o ≡ ended refusal
    go None e = refl
    go (Some r) e =
        let all : length (ended (lines input)) ≡ length (ended (record_lines r.state ++ r.rest)) = ap (λ (l : List (List ℕ)). length (ended l)) (only-records input r e).these in
        many r.state r.rest (omega (arith, lines_long input, all, ended-append (record_lines r.state) r.rest, read_short input r e))
