-- What is proved of reading a machine (02, request 2; proofs/Prefix.antt): the first 64 KB of an input say all that its records say, so a
-- program can read so much first and hand what is left of it on to the script. Assumes nothing.
use Rattle.std.specs.Prelude.{List, ◌++◌, ◌≡◌, ℕ, ◌≤◌, ◌<◌, drop, length, None, Option, Some}
use Rattle.script.specs.Records.{lines}
use Rattle.records.specs.Reading.{Passed, passed_on}
use Rattle.records.specs.RecordTexts.{longest_text, records_text}
use Rattle.reader.specs.Received.{Used, passed_in}
use Rattle.reader.specs.declared.Received.{Received}

-- Accepted records take at most 65,535 bytes.
abbrev pub ReadShort : Type 0
ReadShort = (input : List ℕ) (r : Passed) → passed_on (lines input) ≡ Some r → length (records_text r.state) < longest_text

-- So do those that `read` accepts: a program that reads 64 KB has them whole.
abbrev pub UsedShort : Type 0
UsedShort = (input : List ℕ) (r : Received) → passed_in (Some r) input ≡ passed_on (lines input) → Used (Some r) input → r.used < longest_text

-- What was read of an input, where more bytes follow it: the same state, and the bytes behind its records with those that follow.
abbrev pub goes_on : List ℕ → List ℕ → Option Passed → Option Passed
goes_on input more None = None
goes_on input more (Some r) = Some (record { state = r.state; rest = lines (drop (length (records_text r.state)) input ++ more) })

-- What is read depends on the first 65,536 bytes alone.
abbrev pub ReadPrefix : Type 0
ReadPrefix = (input more : List ℕ) → longest_text ≤ length input → passed_on (lines (input ++ more)) ≡ goes_on input more (passed_on (lines input))
