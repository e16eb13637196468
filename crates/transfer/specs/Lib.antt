-- What the writer of records leaves in a buffer (02, request 2). The sequence and the text of records are definitions of crate `records`.
-- Assumes nothing.
pub mod Sent  -- the text that is written
