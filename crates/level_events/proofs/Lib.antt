pub mod ConfiguredMasks  -- a configuration word stored, and masks filled
