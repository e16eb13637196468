-- The laws that the proofs of src/ share. The other folders here prove the functions of src/: each has the meaning of a
-- definition of crate `model`, which states the rule of 01. Assumes nothing.
pub mod RecordWords  -- the words of a record, read and changed
pub mod RecordFields  -- which word is which field
pub mod RecordStores  -- definitions of the model by the words
pub mod RecordRows  -- a whole row, and a level that starts
pub mod RecordLevels  -- sets of levels
pub mod ReadyVectors  -- the search for the highest ready vector
pub mod RecordOne  -- one record, one array of words
