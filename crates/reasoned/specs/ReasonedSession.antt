-- What a session writes of a chunk with the reasons, and at the script's end. How far the session comes is what `consumed` of crate
-- `session` says: only the text of each line is another. Assumes nothing.
use Rattle.std.specs.Prelude.{ℕ, ◌+◌, min, List, [], ◌∷◌, ◌++◌, length, None, Option, Some}
use Rattle.chunk.specs.Chunk.{line_end}
use Rattle.listing.specs.Listing.{state_by}
use Rattle.model.specs.State.{State}
use Rattle.reason.specs.ReasonedListing.{first_reason, reasoned_done, reasoned_refused}
use Rattle.reason.specs.Reasons.{reasoned_record}
use Rattle.reason.specs.declared.Reason.{Reason}
use Rattle.reason.specs.declared.Reason.TheVariants as reason
use Rattle.records.specs.RecordTexts.{ended as with_feeds}
use Rattle.script.specs.EventForms.{line_event}
use Rattle.script.specs.First.{line_first}
use Rattle.script.specs.Records.{lines_in}
use Rattle.session.specs.Session.{Progress, ended, extended, first, later, stopped}

-- The text of the first line: refused for a reason, or done.
abbrev pub first_text : Option State → Reason → List ℕ
first_text None why = with_feeds (reasoned_refused why ∷ [])
first_text (Some s) why = with_feeds (reasoned_done ∷ [])

-- What the end of a line writes.
unfoldable pub line_text : Progress → List ℕ
line_text (first line) = first_text (state_by (line_first line)) (first_reason (line_first line))
line_text (later number s line) = with_feeds (reasoned_record number s (line_event line) ∷ [])
line_text stopped = []

-- What all of a chunk writes: the text of every line that ends in it.
unfoldable pub told_lines : Progress → List (List ℕ) → List ℕ
told_lines p [] = []
told_lines p (line ∷ more) = line_text (extended p line) ++ told_lines (ended (extended p line)).progress more

unfoldable pub told : Progress → List ℕ → List ℕ
told p chunk = told_lines p (lines_in chunk).complete

-- What the end of the script writes: a last line that lacks its line feed is ended. An empty script has no first line.
abbrev pub last_told : Progress → List ℕ
last_told (first []) = with_feeds (reasoned_refused reason.EmptyInput ∷ [])
last_told (first (byte ∷ line)) = line_text (first (byte ∷ line))
last_told (later number s []) = []
last_told (later number s (byte ∷ line)) = line_text (later number s (byte ∷ line))
last_told stopped = []

-- How much of a chunk is used at once: its first line with the line feed, or all of it.
abbrev pub line_used : List ℕ → ℕ
line_used chunk = min (line_end chunk 0 + 1) (length chunk)
