-- The definitions of what the programs share. Assumes nothing.
pub mod Names  -- names of inputs, and what was read
pub mod Report  -- what is on record of failures
pub mod Turns  -- what is left and written of an input
pub mod Cutting  -- an input in two pieces, and the laws of the listing
