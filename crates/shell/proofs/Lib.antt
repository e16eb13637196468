-- The laws of what the programs share. Assumes nothing.
pub mod Using  -- a chunk that is used piece by piece
pub mod Running  -- an input that is read and fed chunk by chunk
