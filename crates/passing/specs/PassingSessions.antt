-- What saving and resuming do with a session (02, request 2): a session has used a script in chunks, and its state is written; or a session
-- begins with the state of the records that an input begins with. Assumes nothing.
use Rattle.std.specs.Prelude.{Bool, cond, List, [], ◌++◌, ◌≡◌, ℕ, min, ◌≤◌, drop, length, None, Option, Some}
use Rattle.listing.specs.Listing.{first_done, first_refused}
use Rattle.records.specs.Reading.{Passed, passed_on}
use Rattle.records.specs.RecordTexts.{longest_text, records_text}
use Rattle.script.specs.Records.{lines}
use Rattle.session.specs.Session.{Feeding, Progress, consumed, finished, first, last_ended, later, stopped}
use Rattle.transfer.specs.Sent.{sent_text}
use Rattle.passing.specs.Passing.{resumed, saved}

-- The record of line 0: done, or refused.
abbrev pub line_zero : Bool → List ℕ
line_zero done = cond done first_done first_refused

-- What is saved of a session whose script has ended.
abbrev pub saved_text : Progress → List ℕ
saved_text (first line) = first_refused
saved_text (later number s line) = sent_text s
saved_text stopped = first_refused

-- A session that begins with records: it has used them, has answered them as line 0, and goes on from line 1 with their state. Where they
-- are refused it has stopped.
abbrev pub opened_by : List ℕ → Option Passed → Feeding
opened_by input None = record { progress = stopped; used = length input; text = first_refused }
opened_by input (Some r) =
    record { progress = later 1 r.state []; used = min (length (records_text r.state)) (length input); text = first_done }

unfoldable pub opened : List ℕ → Feeding
opened input = opened_by input (passed_on (lines input))

-- What is saved of a fresh session that has used a script is what saving the script gives.
abbrev pub SavedSession : Type 0
SavedSession = (script : List ℕ) → saved_text (last_ended (consumed (first []) script).progress).progress ≡ saved script

-- What a session that begins with records writes is what resuming gives. It may begin with all of an input, or with 64 KB of it at least.
abbrev pub resumed_text : List ℕ → List ℕ → List ℕ
resumed_text start more =
    let f = opened start in f.text ++ finished (consumed f.progress (drop f.used start ++ more))

pub record ResumedSession : Type 0 where
  pub whole : (input : List ℕ) → resumed_text input [] ≡ resumed input
  pub begun : (start more : List ℕ) → longest_text ≤ length start → resumed_text start more ≡ resumed (start ++ more)
