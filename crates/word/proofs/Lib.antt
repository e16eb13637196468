-- The laws of `word`, which other crates cite: of one field, of a layout, of the registers of document 001, and of their fields by
-- number. The other folders here prove the functions of src/. Assumes nothing.
pub mod FieldLaws
pub mod LayoutLaws
pub mod BitFieldLaws
pub mod RegisterLaws
pub mod RegisterFieldLaws
