-- What a session does with a chunk of a script, and at the script's end. It goes by the chunk's lines: those that a line feed
-- ends are answered, and what is left of the chunk is kept as the beginning of the next line. Assumes nothing.
use Rattle.std.specs.Prelude.{◌≡◌, ℕ, suc, ◌+◌, ◌-◌, ◌≤◌, min, Bool, true, false, cond, List, [], ◌∷◌, ◌++◌, length, take, ◌==◌, nat_lt, None, Option, Some}
use Rattle.model.specs.State.{State}
use Rattle.chunk.specs.Chunk.{kept_bytes}
use Rattle.chunk.specs.HeldBytes.{held_bytes}
use Rattle.script.specs.EventForms.{line_event}
use Rattle.script.specs.First.{line_first}
use Rattle.state.specs.Lent.{state_of}
use Rattle.session.specs.declared.Phase.{Phase}
use Rattle.session.specs.declared.Phase.TheVariants as phase
use Rattle.session.specs.declared.Session.{Session}
use Rattle.listing.specs.Listing.{Answered, answered, first_done, first_refused, number_after, record_of, state_by}
use Rattle.script.specs.ListingLine.{longest_record}
use Rattle.script.specs.Records.{lines_in}

-- How far a session has come, with the bytes that it has of a line that has not ended.
pub data Progress : Type 0 where
  -- in the first line
  first : List ℕ → Progress
  -- in a later line: its number, and the state before it
  later : ℕ → State → List ℕ → Progress
  -- after a refused first line
  stopped : Progress

-- How far a session of a phase has come.
abbrev pub progress_in : Phase → ℕ → State → List ℕ → Progress
progress_in phase.First number s line = first line
progress_in phase.Later number s line = later number s line
progress_in phase.Stopped number s line = stopped

-- The words of the pages: the first `lent` of the array, which has 64.
abbrev pub lent_of : List ℕ → ℕ → List ℕ
lent_of words lent = take (min lent 64) words

-- The state of a session.
abbrev pub state_in : Session → State
state_in s = state_of s.setup s.parts (lent_of s.words s.lent)

-- What a session stands for. The buffer beyond the bytes of the line, and the words beyond those of the pages, are no part of it.
abbrev pub progress_of : Session → Progress
progress_of s = progress_in s.phase s.number (state_in s) (held_bytes s.line)

-- Nothing is read after a refused first line.
abbrev pub is_stopped : Progress → Bool
is_stopped (first line) = false
is_stopped (later number s line) = false
is_stopped stopped = true

-- More bytes of the line.
abbrev pub extended : Progress → List ℕ → Progress
extended (first line) more = first (line ++ more)
extended (later number s line) more = later number s (line ++ more)
extended stopped more = stopped

-- Of a line that goes on in the next chunk at most `kept_bytes` are kept: a line of that length is too long already, whatever follows.
abbrev pub kept : Progress → Progress
kept (first line) = first (take kept_bytes line)
kept (later number s line) = later number s (take kept_bytes line)
kept stopped = stopped

-- What the end of a line leaves, and its record; or what a chunk leaves, and its records.
pub record Ended : Type 0 where
  pub progress : Progress
  pub text : List ℕ

-- The first line gives the state that it describes, or is refused; then the session stops.
abbrev pub begun : Option State → Ended
begun None = record { progress = stopped; text = first_refused }
begun (Some s) = record { progress = later 1 s []; text = first_done }

-- A later line gives its answer's record and the next state.
abbrev pub continued : ℕ → Answered → Ended
continued number a = record { progress = later (number_after number) a.next []; text = record_of number a }

unfoldable pub ended : Progress → Ended
ended (first line) = begun (state_by (line_first line))
ended (later number s line) = continued number (answered s (line_event line))
ended stopped = record { progress = stopped; text = [] }

-- The room that the next record may need; a session that has stopped writes none.
abbrev pub room_for : Progress → ℕ
room_for (first line) = longest_record
room_for (later number s line) = longest_record
room_for stopped = 0

-- What a session leaves of a chunk, how many bytes of it are used, and what is written.
pub record Feeding : Type 0 where
  pub progress : Progress
  pub used : ℕ
  pub text : List ℕ

-- A line of the chunk was used, with its line feed, and then more.
abbrev pub followed : List ℕ → List ℕ → Feeding → Feeding
followed line text f = record { progress = f.progress; used = suc (length line) + f.used; text = text ++ f.text }

-- Lines are answered while the longest record has room; then what is left of the chunk is kept.
unfoldable pub fed_lines : Progress → List (List ℕ) → List ℕ → ℕ → Feeding
fed_lines p [] rest room = record { progress = kept (extended p rest); used = length rest; text = [] }
fed_lines p (line ∷ more) rest room =
    let e = ended (extended p line) in
    cond (nat_lt room (room_for p))
    (record { progress = p; used = 0; text = [] })
    (followed line e.text (fed_lines e.progress more rest (room - length e.text)))

-- A chunk, and the room in the buffer.
unfoldable pub fed : Progress → List ℕ → ℕ → Feeding
fed p chunk room = fed_lines p (lines_in chunk).complete (lines_in chunk).rest room

-- A text was written, and then more.
abbrev pub after : List ℕ → Ended → Ended
after text e = record { progress = e.progress; text = text ++ e.text }

-- What all of a chunk leaves, however many calls use it up: every line that ends in it is answered.
unfoldable pub consumed_lines : Progress → List (List ℕ) → List ℕ → Ended
consumed_lines p [] rest = record { progress = kept (extended p rest); text = [] }
consumed_lines p (line ∷ more) rest = let e = ended (extended p line) in after e.text (consumed_lines e.progress more rest)

unfoldable pub consumed : Progress → List ℕ → Ended
consumed p chunk = consumed_lines p (lines_in chunk).complete (lines_in chunk).rest

-- What the end of the input leaves and writes: a last line that lacks its line feed is ended, and so is the first line of an empty input.
abbrev pub last_ended : Progress → Ended
last_ended (first line) = ended (first line)
last_ended (later number s line) =
    cond (length line == 0) (record { progress = later number s line; text = [] }) (ended (later number s line))
last_ended stopped = record { progress = stopped; text = [] }

abbrev pub last_text : Progress → List ℕ
last_text p = (last_ended p).text

-- All that is written of an input once it has ended.
abbrev pub finished : Ended → List ℕ
finished e = e.text ++ last_text e.progress

-- What a caller needs to take parts of what it lent: how much was used of the chunk and written lies within them.
pub record Bounds (used wrote : ℕ) (chunk out : List ℕ) : Type 0 where
  pub used-within : used ≤ length chunk
  pub wrote-within : wrote ≤ length out
  pub wrote-taken : wrote ≡ length (take wrote out)
