-- The definitions of reading a machine from its records (02, request 2). Assumes nothing.
pub mod PastBytes  -- what a line must have before its number
pub mod Slots  -- where the quantity at a place is kept
pub mod Received  -- what reading gives
pub mod ReaderClaims  -- what is proved of reading
