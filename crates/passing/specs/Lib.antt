-- What saving and resuming give (02, request 2). Assumes nothing.
pub mod Passing  -- what is written by saving, and by resuming
pub mod PassingClaims  -- what is proved of them
pub mod PassingSessions  -- what a session that is saved or resumed does
