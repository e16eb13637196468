-- Lockstep: one event on a machine in words that the caller owns (01, "The bench model" and "Script and listing"). Assumes nothing.
pub mod MachineWords  -- the state that the words stand for, and the words of a state
pub mod ReasonNumbers  -- the numbers of the reasons
pub mod Lockstep  -- what opening a machine and one line on it give
pub mod LockstepClaims  -- what is proved of lockstep
pub mod LockstepParts  -- what the code's parts give
