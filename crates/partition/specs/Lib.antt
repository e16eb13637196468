-- What the partition holds in lent words, and the sets of levels that the access decision goes by. Assumes nothing.
pub mod PartitionView  -- the record that the lent words stand for
pub mod Denying  -- the levels that deny an access, as a set
