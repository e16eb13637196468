-- The theorems of specs/. They rest on the laws of one step in `model`: hiding, what a step leaves, well-formedness.
pub mod Runs  -- demand 3
pub mod ListingRuns  -- demand 3 down to the listing
pub mod Instance  -- an instance of demand 3
