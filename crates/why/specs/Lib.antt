-- The laws of the listing with reasons. Assumes nothing.
pub mod ReasonsLaws  -- what is told of pieces
