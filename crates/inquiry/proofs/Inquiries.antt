-- What is written of an input, line by line. Assumes nothing.
use Rattle.std.specs.Prelude.{Option, None, Some}
use mathlib.Core.List.{List, []}
use mathlib.Core.Path.{◌≡◌, refl, sym, ap, ◌∙◌}
use Prim.Native.Nat.{ℕ, min, ◌+◌, ◌-◌, ◌≤◌, ◌<◌}
use native.Mathlib.Omega.{arith}
use lib.ListN.{drop, drop_of_length-le, length, take}
use Rattle.chunk.specs.Chunk.{line_end}
use Rattle.model.specs.State.{pages, processors}
use Rattle.reader.proofs.Cut.{lines_next}
use Rattle.reader.specs.Received.{passed_in, state_in}
use Rattle.reader.specs.declared.Received.{Received}
use Rattle.records.proofs.SameBytes.{only-records}
use Rattle.records.specs.Reading.{passed_on}
use Rattle.records.specs.RecordTexts.{ended}
use Rattle.script.specs.EventForms.{line_event}
use Rattle.script.specs.Records.{lines, lines_in}
use Rattle.sheet.specs.Sheets.{Explanation, sheet_text}
use Rattle.sheet.specs.Verdicts.{refusal, verdict}
use Rattle.state.specs.Lent.{machine_of}
use Rattle.inquiry.specs.AskedLines.{ranged_by}
use Rattle.asked.specs.AskedAccess.{asked_by}
use Rattle.inquiry.specs.Inquiry.{explained, of_asked, of_lines, of_passed, sheet_with}
use Rattle.inquiry.proofs.AccessLines.{ranged}

no_lines : lines [] ≡ []
unfolding lines lines_in
no_lines = refl

-- Nothing is left from a place on.
pub none_left : (input : List ℕ) (from : ℕ) → length input ≤ from → lines (drop from input) ≡ []
none_left input from h = ap lines (drop_of_length-le input h) ∙ no_lines

-- Behind an access line: nothing, one line, or more.
module _ (e : Explanation) (input : List ℕ) (from : ℕ) where
  pub with_none : length input ≤ from → sheet_with e (lines (drop from input)) ≡ sheet_text e
  with_none h = rw (none_left input from h)

  module _ (end : ℕ) (is : end ≡ line_end input from) (h : from < length input) where
    pub with-one : length input ≤ end + 1 → sheet_with e (lines (drop from input)) ≡ verdict e (take (end - from) (drop from input))
    with-one k =
        let all : length input ≤ min (end + 1) (length input) = omega arith in
        rw (lines_next input from end is h, none_left input (min (end + 1) (length input)) all)

    pub with-more : end + 1 < length input → sheet_with e (lines (drop from input)) ≡ ended refusal
    with-more k =
        let next : min (end + 1) (length input) ≡ end + 1 = omega arith in
        rw (lines_next input from end is h, next, lines_next input (end + 1) (line_end input (end + 1)) refl k)

-- The records, the access line and what follows it.
module _ (read : Option Received) (input : List ℕ) (passed : passed_in read input ≡ passed_on (lines input)) where
  pub none_read : read ≡ None → explained input ≡ ended refusal
  unfolding explained
  none_read e = let nothing : passed_in read input ≡ None = rw e in ap of_passed (sym passed ∙ nothing)

  module _ (r : Received) (e : read ≡ Some r) where
    were-read : passed_on (lines input) ≡ Some (record { state = state_in r; rest = lines (drop r.used input) })
    were-read = sym passed ∙ rw e

    explained-by : explained input ≡ of_lines (state_in r) (lines (drop r.used input))
    unfolding explained
    explained-by = ap of_passed were-read

    pub no_access : length input ≤ r.used → explained input ≡ ended refusal
    no_access h = explained-by ∙ rw (none_left input r.used h)

    module _ (end : ℕ) (is : end ≡ line_end input r.used) (h : r.used < length input) where
      pub by-access : explained input
          ≡ of_asked (state_in r) (ranged_by r.setup (asked_by (line_event (take (end - r.used) (drop r.used input))))) (lines (drop (min (end + 1) (length input)) input))
      unfolding machine_of processors pages
      by-access =
          explained-by ∙ ap (of_lines (state_in r)) (lines_next input r.used end is h)
          ∙ ranged (state_in r) (only-records input _ were-read).formed r.setup refl refl
          (lines (drop (min (end + 1) (length input)) input)) (line_event (take (end - r.used) (drop r.used input)))
