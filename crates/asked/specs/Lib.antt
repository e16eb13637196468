-- The definitions of the access that a line asks for. Assumes nothing.
pub mod AskedAccess  -- the access that a line asks for
