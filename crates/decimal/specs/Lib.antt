-- The definitions of decimal numbers: how a field is read, and how a number is written.
-- Assumes nothing.
pub mod Read
pub mod Write
