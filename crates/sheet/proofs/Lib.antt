-- The laws of sheets (02, request 3). Assumes nothing.
pub mod SheetReading  -- the fields of an explanation's line, and that no other explanation has it
pub mod TextPutting  -- a text put into a buffer
pub mod SheetLengths  -- how long the line of an explanation is
pub mod WordBytes  -- texts that are compared
pub mod FieldPassing  -- the way along the fields of a sheet
pub mod FirstFields  -- the form of a sheet by its first field
pub mod FieldShowing  -- the fields of a sheet, shown one a line
pub mod VerdictLaws  -- the verdict on a sheet
pub mod LineIsSheet  -- the line of an explanation has the form of a sheet
pub mod SheetSamples  -- sheets that are read by computation
