pub mod Asking  -- the accesses that a level asks to be told of, by the kind of access
