-- The definitions of a script's lines and of a listing's lines (01, "Script and listing").
-- Assumes nothing.
pub mod Bytes  -- words as bytes
pub mod Records  -- the lines of a script
pub mod LineForms  -- the fields of a line, and what a line of a known form says
pub mod EventForms  -- the twenty-one events, and what a later line says
pub mod First  -- what the first line says
pub mod Texts  -- the line of an event, and of a first line
pub mod Search  -- where a byte stands, and how often
pub mod NumberRows  -- how the code finds and holds the numbers of a line
pub mod EventWords  -- the event words as the code finds them
pub mod ListingLine  -- a line of the listing
