-- The definitions of state records (02, request 2). Assumes nothing.
pub mod Places  -- the sequence of the records
pub mod Values  -- the quantity at a place, and the state of given quantities
pub mod FewIndices  -- at most three indices in an array
pub mod RecordTexts  -- the text of a record, and of a state
pub mod Reading  -- what records say
pub mod Walk  -- the place that is due after another
pub mod RecordClaims  -- what is proved of them
