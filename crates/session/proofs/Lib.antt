-- The laws of a session. `whole` of Whole is the theorem. Assumes nothing.
pub mod Numbering  -- a line number with its digits
pub mod Ending  -- the end of a line
pub mod Feeding  -- a chunk from a place on
pub mod WholeListing  -- any cutting gives the listing of the whole
pub mod Callers  -- an input that a caller feeds piece by piece
