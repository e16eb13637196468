-- The laws of the reasons and the theorems of specs/ReasonClaims.antt. Other crates cite them.
pub mod NameLaws  -- the names of the refusals
pub mod PlainFields  -- fields without tab and line feed, and their lengths
pub mod FourFields  -- the first four fields are the listing
pub mod FirstConditions  -- the first condition that holds
