-- The laws that the proofs of src/ share. The other folders here prove the functions of src/: each has the meaning of a
-- definition of crate `model`, which states the rule of 01. Assumes nothing.
pub mod LevelSearches  -- the next level up, and the level that waits
