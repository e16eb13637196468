-- The laws that the proofs of src/ share, and those of session. Assumes nothing.
pub mod ChunkLines  -- the lines of a chunk, found and kept
