-- The laws of the definitions and the theorems of specs/Claims.antt. Other crates cite them.
pub mod Bools  -- tests
pub mod BoundedLaws  -- tests and searches below a bound
pub mod ArrayLaws  -- arrays
pub mod Four  -- arrays of four
pub mod Sets  -- sets as numbers
pub mod LevelSets  -- sets of levels
pub mod AnswerLaws  -- the answer that an event's conditions give, and demand 1
pub mod FreshFormed  -- the fresh machine is well formed
pub mod CasesGiven  -- the eight proved cases
pub mod Maps  -- the map that sees the place
pub mod Searches  -- what a search for a level answers, as a number and as an option
pub mod TopVectors  -- the highest ready vector, by words and bits
pub mod WatchTable  -- the table of watched registers
pub mod Found  -- what the searches on one processor find
pub mod Visible  -- hiding and one processor
pub mod Whole  -- hiding and the whole state
pub mod Formed  -- what a well-formed state has
pub mod Steps  -- a step commutes with hiding
pub mod Moves  -- what a step leaves as it was
pub mod Readings  -- two readings that go wrong
pub mod Sound  -- a well-formed processor stays so
pub mod Keeps  -- a step keeps a state well formed
