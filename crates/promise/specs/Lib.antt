pub mod Promise  -- the states that have the parts which a function is given
