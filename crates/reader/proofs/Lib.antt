-- The laws of reading records. Assumes nothing.
pub mod Beginnings  -- what a line must have before its number
pub mod StoredPlaces  -- what is kept after a store
pub mod Stands  -- what the parts stand for
pub mod Blank  -- the parts before any store
pub mod SevenFields  -- the first record
pub mod Cut  -- the lines that are passed, and their bytes
pub mod Taking  -- the records read along the walk
pub mod Receiving  -- the whole
pub mod Prefix  -- the first 64 KB say all
