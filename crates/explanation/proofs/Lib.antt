pub mod Explains  -- the explanation is that of the answer, and shows each denying level
pub mod ExplainedParts  -- the explanation by the parts that the function is given
pub mod LentRecord  -- the record of a processor of the lent state
