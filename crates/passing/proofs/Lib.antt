-- The theorems of specs/. The other folders here prove the functions of src/. Assumes nothing.
pub mod PassedRuns  -- a run from the state that was read back
pub mod SavedSessions  -- a session that has used a script, and is saved
pub mod ResumedSessions  -- a session that begins with records
pub mod UsedChunks  -- what is kept while a chunk is used
