-- The listing of a script (01, "Script and listing"). Assumes nothing.
pub mod Listing  -- the listing of a whole script
pub mod Answer  -- how the code makes the record of an answer
