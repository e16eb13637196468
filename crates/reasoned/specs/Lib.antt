-- The definitions of a script that comes in chunks, and its listing with reasons. Assumes nothing.
pub mod ReasonedSession  -- what a chunk writes, and the end of the script
pub mod ReasonedParts  -- what the code's parts give
pub mod ReasonedCuts  -- however a script is cut
