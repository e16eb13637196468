-- The definitions of `word`: one field of a word, a layout of fields, the registers of document 001, and where their fields stand.
-- Assumes nothing.
pub mod Field
pub mod Layout
pub mod RegisterLayouts
pub mod RegisterFields
