-- The definitions of why an access is allowed or denied (02, request 3). Assumes nothing.
pub mod Explained  -- why an access is allowed or denied
pub mod ExplainedClaims  -- what is proved of it
