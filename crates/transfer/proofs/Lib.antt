-- The laws that the proofs of src/ share. Assumes nothing.
pub mod QuantityWords  -- where the quantity at a place is kept
pub mod Stores  -- texts that are written into a buffer
pub mod Left  -- the text record by record, and what is left to write
pub mod Sending  -- what the writer leaves in each case
pub mod LentSized  -- the state that code lends is sized
