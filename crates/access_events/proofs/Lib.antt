pub mod AccessOutcome  -- what an access leaves, by its answer
pub mod Receivers  -- who denies an access and who receives the intercept, by the parts
