-- The laws of a script's lines and of a listing's lines.
-- Assumes nothing.
pub mod StoredTexts  -- texts and numbers stored one after another
pub mod Same  -- words that are compared
pub mod FieldPlaces  -- where the fields of a line stand
pub mod NumberReading  -- the numbers of a line, read into a row
pub mod Naming  -- the word that a line begins with
pub mod Saying  -- what a line says, by the row of its numbers
pub mod FirstForms  -- the two forms of a first line
pub mod Cells  -- a line of the listing, written cell by cell
pub mod Parted  -- the fields of a line that was put together
pub mod LineRoundTrip  -- the line of an event says the event
pub mod OneLine  -- no other line does
pub mod Samples  -- lines that are read by computation
