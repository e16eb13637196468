pub mod Isolation  -- demand 3, and that a run keeps a state well formed
pub mod Listings  -- demand 3 down to the listing
pub mod Example  -- an instance of demand 3
