-- The definitions of the sheet that says why an access is allowed or denied (02, request 3). Assumes nothing.
pub mod Sheets  -- the line of an explanation
pub mod SheetForms  -- the form of a sheet that was filled in by hand
pub mod PassedFields  -- how the code goes along its fields
pub mod Verdicts  -- what is written of such a sheet
pub mod SheetClaims  -- what is proved of them
