-- The laws that the proofs of the events' functions cite.
pub mod Inhabited  -- no promise is empty
pub mod Outcomes  -- the outcome of a rule from its answer
