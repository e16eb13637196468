-- The laws that the proofs of this crate cite.
pub mod MaskedBits  -- a write that changes a masked bit
pub mod TableRows  -- a table searched row by row
pub mod Watchers  -- the level that is told of an access
