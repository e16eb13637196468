-- `script::line_events::action` meets its contract: each arm is what a level does by its word.
-- Assumes nothing.
use Rattle.script.proofs.line_events.action.Goals as goal

pub returns-in-Enpart : goal.returns-in-Enpart
returns-in-Enpart c = rw c.in-Enpart.is

pub returns-in-Envp : goal.returns-in-Envp
returns-in-Envp c = rw c.in-Envp.is

pub returns-in-Call : goal.returns-in-Call
returns-in-Call c = rw c.in-Call.is

pub returns-in-Ret : goal.returns-in-Ret
returns-in-Ret c = rw c.in-Ret.is

pub returns-in-Read : goal.returns-in-Read
returns-in-Read c = rw c.in-Read.is

pub returns-in-Write : goal.returns-in-Write
returns-in-Write c = rw c.in-Write.is

pub returns-in-Fetch : goal.returns-in-Fetch
returns-in-Fetch c = rw c.in-Fetch.is

pub returns-in-Protect : goal.returns-in-Protect
returns-in-Protect c = rw c.in-Protect.is

pub returns-in-Config : goal.returns-in-Config
returns-in-Config c = rw c.in-Config.is

pub returns-in-Secure : goal.returns-in-Secure
returns-in-Secure c = rw c.in-Secure.is

pub returns-in-Flush : goal.returns-in-Flush
returns-in-Flush c = rw c.in-Flush.is

pub returns-in-Rreg : goal.returns-in-Rreg
returns-in-Rreg c = rw c.in-Rreg.is

pub returns-in-Wreg : goal.returns-in-Wreg
returns-in-Wreg c = rw c.in-Wreg.is

pub returns-in-Tpr : goal.returns-in-Tpr
returns-in-Tpr c = rw c.in-Tpr.is

pub returns-in-Ack : goal.returns-in-Ack
returns-in-Ack c = rw c.in-Ack.is

pub returns-in-Pstat : goal.returns-in-Pstat
returns-in-Pstat c = rw c.in-Pstat.is

pub returns-in-Vstat : goal.returns-in-Vstat
returns-in-Vstat c = rw c.in-Vstat.is

pub returns-in-Caps : goal.returns-in-Caps
returns-in-Caps c = rw c.in-Caps.is

pub returns-in-Cri : goal.returns-in-Cri
returns-in-Cri c = rw c.in-Cri.is

pub returns-in-Crm : goal.returns-in-Crm
returns-in-Crm c = rw c.in-Crm.is
