-- The definitions of a session: a script that comes in chunks, and its listing (01, "Script and listing").
-- Assumes nothing.
pub mod Session  -- what a session does with a chunk, and at the end
pub mod LineNumbers  -- a line number with its digits
pub mod SessionParts  -- what the code's parts give
pub mod Calls  -- any run of calls
