-- What is proved of records (02, request 2), each once for all states and texts (proofs/SameBytes.antt, proofs/Lengths.antt). Assumes nothing.
use Rattle.std.specs.Prelude.{true, List, ◌++◌, ◌↔◌, ◌≡◌, ℕ, ◌<◌, length, Some}
use Rattle.model.specs.State.{State}
use Rattle.model.specs.WellFormed.{well_formed}
use Rattle.script.specs.Records.{lines}
use Rattle.records.specs.Reading.{Passed, passed_on}
use Rattle.records.specs.RecordTexts.{longest_text, record_lines, records_text}
use Rattle.records.specs.Values.{plain, Sized}

-- Reading what was written gives the same state, and leaves the script that follows.
abbrev pub ReadBack : Type 0
ReadBack = (s : State) → well_formed s ≡ true → Sized s → (script : List ℕ)
    → passed_on (lines (records_text s ++ script)) ≡ Some (record { state = plain s; rest = lines script })

-- What is accepted is the records of the state that it gives, and what follows them. The state is well formed, and has nothing in it
-- that is no part of a state.
pub record Exact (lines : List (List ℕ)) (r : Passed) : Type 0 where
  pub these : lines ≡ record_lines r.state ++ r.rest
  pub formed : well_formed r.state ≡ true
  pub whole : plain r.state ≡ r.state

abbrev pub OnlyRecords : Type 0
OnlyRecords = (text : List ℕ) (r : Passed) → passed_on (lines text) ≡ Some r → Exact (lines text) r

-- Two well-formed states have the same bytes exactly when they are equal in all that is part of a state.
abbrev pub SameBytes : Type 0
SameBytes = (s t : State) → well_formed s ≡ true → well_formed t ≡ true → Sized s → Sized t
    → (records_text s ≡ records_text t) ↔ (plain s ≡ plain t)

-- The text of a well-formed state has room in a buffer of 64 KB.
abbrev pub ShortText : Type 0
ShortText = (s : State) → well_formed s ≡ true → length (records_text s) < longest_text
