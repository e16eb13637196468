-- The definitions of lines in a chunk. Assumes nothing.
pub mod Chunk  -- where a line ends, and what is held of one
pub mod HeldBytes  -- what a held line has
