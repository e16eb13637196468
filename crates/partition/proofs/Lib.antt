-- The laws that the proofs of `partition` and of the crates above it cite.
pub mod MaskPlaces  -- masks and stores, case by case
pub mod PartitionWords  -- the words of the levels
pub mod DenyingLevels  -- the set of the denying levels, of a state
pub mod Counted  -- loops that count up to a bound
pub mod Clauses  -- the clauses of a well-formed level
