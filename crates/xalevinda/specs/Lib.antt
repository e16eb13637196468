-- The definitions of the library for other programs. Assumes nothing.
pub mod Exports  -- what the exported functions answer
pub mod StoredListing  -- what the code's parts give
