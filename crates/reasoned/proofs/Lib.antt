-- The laws of a session with reasons, and the theorems of specs/ReasonedCuts.antt.
pub mod ReasonedLines  -- lines that end, and what is written of them
pub mod WholeReasons  -- however a script is cut
pub mod LineByLine  -- for callers: a script fed line by line
