-- How a virtual processor's record (01, "The bench model") is kept in words. The rules themselves are definitions of crate
-- `model`. Assumes nothing.
pub mod Record
