-- The definitions of the reasons for answers: the names of the refusals, the reason of one line, and the listing with reasons. Assumes nothing.
pub mod ReasonNames  -- the name of each refusal
pub mod Reasons  -- why a line got its answer, and its line of the listing with reasons
pub mod ReasonedListing  -- the listing with reasons of a whole script
pub mod ReasonClaims  -- what is proved of them
