-- The laws that lift what the functions of the events promise to the whole state.
pub mod LentParts  -- the parts of the lent state
pub mod MissingProcessor  -- an event whose processor or mode is not there
pub mod KnownFormed  -- a step on a state that is known to be well formed or not
