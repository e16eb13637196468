-- The state as code lends it, in parts (01, "The bench model"). The rules themselves are definitions of crate `model`.
-- Assumes nothing.
pub mod Lent  -- the state of its parts
pub mod SecureWord  -- a well-formed secure configuration word
