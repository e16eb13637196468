pub mod Access  -- an access to a page
pub mod Counting  -- the levels whose MBEC counts
