-- The laws that the proofs of src/ share, and that the numbers of the reasons differ. The other folders here prove the functions of src/. Assumes
-- nothing.
pub mod OneReasonNumber  -- one number, one refusal
pub mod StoredWords  -- words stored into others
pub mod WordsBack  -- the words of a state that stands in parts
pub mod StateStored  -- the words of a machine after its parts were stored
pub mod LineTold  -- a line that was answered
pub mod OpenedMachine  -- a machine that was opened
pub mod LockstepRun  -- the claims: a refusal, and a run in lockstep
