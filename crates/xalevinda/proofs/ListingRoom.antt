-- How much room the text of an input takes at most: 84 bytes for each line that ends, and for one more. Assumes nothing.
use Rattle.std.specs.Prelude.{None, Option, Some}
use mathlib.Core.Bool.{Bool, true, false, cond}
use mathlib.Core.List.{List, [], ◌∷◌}
use mathlib.Core.Path.{◌≡◌, refl, sym, ap, ◌∙◌}
use Prim.Native.Nat.{ℕ, suc, ◌+◌, ◌*◌, ◌≤◌}
use native.Mathlib.Omega.{arith}
use lib.Dec.{eqb}
use Rattle.std.specs.List.{filter}
use lib.ListN.{length, length-append}
use Rattle.listing.specs.Listing.{Answered, answered, first_done, later_records, listing, listing_from, listing_of, number_after, record_of, state_by}
use Rattle.passing.specs.Passing.{resumed, resumed_from}
use Rattle.passing.specs.PassingSessions.{opened, opened_by, saved_text}
use Rattle.passing.proofs.SavedSessions.{sent-at-most}
use Rattle.records.proofs.SameBytes.{only-records}
use Rattle.records.specs.Reading.{Passed, passed_on}
use Rattle.records.specs.RecordTexts.{longest_text, record_lines}
use Rattle.script.specs.Records.{in_front, last_line, lines, lines_in}
use Rattle.model.specs.Answers.{number_of, value_of}
use Rattle.model.specs.State.{State}
use Rattle.script.proofs.Cells.{line-at-most}
use Rattle.script.specs.EventForms.{line_event}
use Rattle.script.specs.First.{line_first}
use Rattle.script.specs.ListingLine.{line_feed}
use Rattle.session.specs.Session.{Progress, first, later, stopped}

-- A record has at most 84 bytes.
record-at-most : (number : ℕ) (a : Answered) → length (record_of number a) ≤ 84
record-at-most number a = line-at-most number (number_of a.answer) (value_of a.answer) a.level

later-at-most : (number : ℕ) (s : State) (ls : List (List ℕ)) → length (later_records number s ls) ≤ 84 * length ls
unfolding later_records
later-at-most number s [] = omega arith
later-at-most number s (line ∷ ls) =
    let a = answered s (line_event line) in
    omega (arith, length-append (record_of number a) (later_records (number_after number) a.next ls), record-at-most number a, later-at-most (number_after number) a.next ls)

from-at-most : (o : Option State) (more : List (List ℕ)) → length (listing_from o more) ≤ 84 + 84 * length more
from-at-most None more = omega (arith, line-at-most 0 1 0 0)
from-at-most (Some s) more = omega (arith, length-append first_done (later_records 1 s more), line-at-most 0 0 0 0, later-at-most 1 s more)

of-at-most : (ls : List (List ℕ)) (n : ℕ) → length ls ≤ suc n → length (listing_of ls) ≤ 84 * suc n
of-at-most [] n h = omega (arith, line-at-most 0 1 0 0)
of-at-most (line ∷ more) n h = omega (arith, from-at-most (state_by (line_first line)) more)

last-at-most : (rest : List ℕ) → length (last_line rest) ≤ 1
last-at-most [] = omega arith
last-at-most (byte ∷ rest) = omega arith

-- An input has a line for every line feed, and one more at most.
lines-at-most : (input : List ℕ) → length (lines input) ≤ suc (length (lines_in input).complete)
unfolding lines
lines-at-most input =
    let l = lines_in input in omega (arith, length-append l.complete (last_line l.rest), last-at-most l.rest)

pub listing-at-most : (script : List ℕ) → length (listing script) ≤ 84 * suc (length (lines_in script).complete)
unfolding listing
listing-at-most script = of-at-most (lines script) (length (lines_in script).complete) (lines-at-most script)

-- What is resumed: the records of a state have a line at least, so line 0 is paid for.
some-lines : (s : State) → 1 ≤ length (record_lines s)
unfolding record_lines
some-lines s = omega arith

pub resumed-at-most : (input : List ℕ) → length (resumed input) ≤ 84 * suc (length (lines_in input).complete)
unfolding resumed
resumed-at-most input = go (passed_on (lines input)) refl
  where
    go : (o : Option Passed) → passed_on (lines input) ≡ o → length (resumed_from o) ≤ 84 * suc (length (lines_in input).complete)
    go None e = omega (arith, line-at-most 0 1 0 0)
    go (Some r) e =
        let these = ap length (only-records input r e).these in
        omega (arith, from-at-most (Some r.state) r.rest, these, length-append (record_lines r.state) r.rest, some-lines r.state, lines-at-most input)

-- Line 0 of what is resumed.
pub opened-at-most : (input : List ℕ) → length (opened input).text ≤ 84
unfolding opened
opened-at-most input = go (passed_on (lines input))
  where
    go : (o : Option Passed) → length (opened_by input o).text ≤ 84
    go None = line-at-most 0 1 0 0
    go (Some r) = line-at-most 0 0 0 0

-- What is saved.
pub saved-at-most : (p : Progress) → length (saved_text p) ≤ longest_text
saved-at-most (first line) = omega (arith, line-at-most 0 1 0 0)
saved-at-most (later number s line) = sent-at-most s
saved-at-most stopped = omega (arith, line-at-most 0 1 0 0)

-- An input has as many line feeds as lines that end.
in-front : (byte : ℕ) (complete : List (List ℕ)) (rest : List ℕ) → length (in_front byte complete rest).complete ≡ length complete
in-front byte [] rest = refl
in-front byte (line ∷ more) rest = refl

pub feeds-counted : (input : List ℕ) → length (filter (λ byte. eqb byte line_feed) input) ≡ length (lines_in input).complete
unfolding lines_in
feeds-counted [] = refl
feeds-counted (byte ∷ bytes) = go (eqb byte line_feed) (feeds-counted bytes)
  where
    go : (t : Bool) → length (filter (λ byte. eqb byte line_feed) bytes) ≡ length (lines_in bytes).complete
        → length (cond t (byte ∷ filter (λ byte. eqb byte line_feed) bytes) (filter (λ byte. eqb byte line_feed) bytes))
        ≡ length (cond t (record { complete = [] ∷ (lines_in bytes).complete; rest = (lines_in bytes).rest }) (in_front byte (lines_in bytes).complete (lines_in bytes).rest)).complete
    go true h = ap suc h
    go false h = h ∙ sym (in-front byte (lines_in bytes).complete (lines_in bytes).rest)
