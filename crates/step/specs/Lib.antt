pub mod Stepped  -- what a step leaves
