pub mod Arrays  -- arrays, read and changed one entry at a time
pub mod Bounded  -- tests and searches below a bound
pub mod State  -- the state, and what can be read of it
pub mod Registers  -- private and shared registers
pub mod Updates  -- the updates that events are made of
pub mod Masks  -- protection masks and configuration words
pub mod Fresh  -- the fresh machine
pub mod WellFormed  -- well-formed states
pub mod Answers  -- answers, their numbers and values
pub mod Entry  -- entry, call, return and interrupts on one processor
pub mod Memory  -- the access decision
pub mod Watching  -- which accesses to registers a higher level is told of
pub mod Events  -- the rule of each event
pub mod Step  -- one step, and a run
pub mod LevelColumn  -- the level column of the listing
pub mod MapAt  -- a map that sees the place
pub mod Hide  -- what is hidden from the levels below K
pub mod Cases  -- the eight proved cases
pub mod Claims  -- what is proved of the definitions
