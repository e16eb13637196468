-- The text of a state's records as it is written, record by record (02, request 2). Assumes nothing.
use Rattle.std.specs.Prelude.{cond, List, [], ◌∷◌, ◌++◌, ℕ}
use Rattle.model.specs.declared.machine.Setup.{Setup}
use Rattle.model.specs.State.{State}
use Rattle.model.specs.WellFormed.{well_formed}
use Rattle.records.specs.declared.place.Place.{Place}
use Rattle.records.specs.Places.{places}
use Rattle.records.specs.RecordTexts.{first_of, front, records_text}
use Rattle.records.specs.Values.{setup_at, value_at}
use Rattle.script.specs.ListingLine.{cell, line_feed}
use Rattle.script.specs.Texts.{first_line_of}

-- A record with its line feed, and the first record.
unfoldable pub record_text : Place → ℕ → List ℕ
record_text p x = front p ++ cell x line_feed

unfoldable pub first_record_text : Setup → List ℕ
first_record_text setup = first_line_of (first_of setup) ++ line_feed ∷ []

-- The records at some places, where `value` says the quantity at each, and all after the first of a state.
unfoldable pub text_at : (Place → ℕ) → List Place → List ℕ
text_at value [] = []
text_at value (p ∷ ps) = record_text p (value p) ++ text_at value ps

unfoldable pub places_text : State → List ℕ
places_text s = text_at (value_at s) (places (setup_at s))

-- What is written of a state: its records where it is well formed, else nothing.
unfoldable pub sent_text : State → List ℕ
sent_text s = cond (well_formed s) (records_text s) []
