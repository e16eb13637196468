-- The definitions of why an access is allowed or denied, asked by records and a line (02, request 3). Assumes nothing.
pub mod Inquiry  -- what is written of an input
pub mod AskedLines  -- what the code's parts give
