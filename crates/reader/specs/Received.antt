-- What reading gives (02, request 2): the machine in its parts and how many bytes its records take, or nothing. Assumes nothing.
use Rattle.std.specs.Prelude.{Bool, List, [], ◌∷◌, ◌++◌, ◌≡◌, ℕ, ◌-◌, ◌≤◌, min, ltb, drop, length, replicate, set, take, None, Option, Some}
use Rattle.model.specs.declared.machine.Setup.{Setup}
use Rattle.model.specs.State.{State, top}
use Rattle.processor.specs.Record.{record_words}
use Rattle.script.specs.Records.{lines}
use Rattle.state.specs.Lent.{lent}
use Rattle.records.specs.Places.{places}
use Rattle.records.specs.Reading.{Passed, formed_only, from_taken, taking}
use Rattle.records.specs.RecordTexts.{ended, records_text}
use Rattle.records.specs.Values.{number}
use Rattle.reader.specs.Slots.{Parts, parts_of, parts_with}
use Rattle.reader.specs.declared.Received.{Received}

-- The state of some parts: as many words as there are pages.
abbrev pub state_of : Setup → Parts → State
state_of setup m = lent setup m.levels m.masks m.vps (take setup.pages m.words)

-- The state that was read, and what was read: it, and the lines that follow the bytes used.
abbrev pub state_in : Received → State
state_in r = state_of r.setup (parts_with r.parts r.words)

abbrev pub passed_in : Option Received → List ℕ → Option Passed
passed_in None input = None
passed_in (Some r) input = Some (record { state = state_in r; rest = lines (drop r.used input) })

-- The bytes that the records take, with the line feed of the last if it has one.
abbrev pub Used : Option Received → List ℕ → Type 0
Used None input = Unit {0}
Used (Some r) input = r.used ≡ min (length (records_text (state_in r))) (length input)

-- The sizes are in range.
abbrev pub Few : Setup → Type 0
Few setup = (setup.processors ≤ 4) × (top setup.shape ≤ 3) × (setup.pages ≤ 64)

-- The parts before any quantity is stored: all 0 but level 0, which is enabled.
abbrev pub blank_record : Bool → List ℕ
blank_record on = set (replicate record_words 0) 1 (number on)

abbrev pub blank_row : ℕ → ℕ → List ℕ
blank_row processors v = blank_record (ltb v processors)

abbrev pub blank_rows : ℕ → List (List ℕ)
blank_rows processors = blank_row processors 0 ∷ blank_row processors 1 ∷ blank_row processors 2 ∷ blank_row processors 3 ∷ []

abbrev pub blank_parts : Setup → Parts
blank_parts setup = parts_of (1 ∷ 0 ∷ 0 ∷ 0 ∷ 0 ∷ 0 ∷ []) (replicate 256 0) (blank_rows setup.processors) (replicate 64 0)

-- The first `count` lines of some bytes take `size` of them, each with its line feed if it has one.
pub record Passes (bytes : List ℕ) (count size : ℕ) : Type 0 where
  pub passed : List (List ℕ)
  pub counted : length passed ≡ count
  pub split : lines bytes ≡ passed ++ lines (drop size bytes)
  pub place : size ≡ min (length (ended passed)) (length bytes)

-- What the records from a place on say, and where they end.
abbrev pub wanted : Setup → List ℕ → ℕ → Option Passed
wanted setup input from = from_taken setup (taking (places setup) (lines (drop from input)))

abbrev pub Taken : Setup → List ℕ → ℕ → Option ℕ → Parts → Type 0
Taken setup input from None m = wanted setup input from ≡ None
Taken setup input from (Some end) m =
    (wanted setup input from ≡ formed_only (state_of setup m) (lines (drop end input)))
    × (from ≤ end) × (end ≤ length input) × Passes (drop from input) (length (places setup)) (end - from)

-- Where accepted records after the first end.
abbrev pub Placed : Setup → ℕ → Option Received → List ℕ → Type 0
Placed setup from None input = Unit {0}
Placed setup from (Some r) input = (r.setup ≡ setup) × (from ≤ r.used) × Passes (drop from input) (length (places setup)) (r.used - from)
