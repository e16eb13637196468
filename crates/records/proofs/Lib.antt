-- The laws of records. Assumes nothing.
pub mod Sequence  -- the sequence rises, and has each place that a state has
pub mod Tables  -- lists by their entries
pub mod PlainStates  -- a state is what its quantities make
pub mod Limits  -- the bounds of the indices of a place
pub mod Made  -- what is made of quantities has them
pub mod RecordLines  -- one line: its number, and no other
pub mod Walks  -- the walk goes along the sequence
pub mod ReadingBack  -- the theorems: reading what was written, only such texts, same bytes
pub mod SameBytes  -- the same of bytes
pub mod ClosedNumbers  -- numbers that have a tab each, and the front of a record
pub mod Lengths  -- how long the text is
