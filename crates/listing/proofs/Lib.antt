-- The laws that the proofs of crates above share. The other folders here prove the functions of src/. Assumes nothing.
pub mod LevelShown  -- what is shown of an event's answer, as code has it
