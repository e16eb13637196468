-- The laws that the proofs of src/ and of the crates above share (01, "The bench model" and "Well formed"). The other folders here
-- prove the functions of src/. Assumes nothing.
pub mod FormedClauses  -- clauses of a well-formed state that the code tests in another form or order
pub mod FreshMachine  -- the fresh machine of its parts
pub mod OneState  -- one state, one lot of parts
