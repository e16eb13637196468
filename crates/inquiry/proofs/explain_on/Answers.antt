-- `inquiry::explain_on` meets its contract: the machine is that of the parts that were read. Assumes nothing.
use mathlib.Core.Path.{sym}
use lib.ListN.{take}
use Rattle.inquiry.proofs.explain_on.Goals as goal

pub returns : goal.returns
returns c =
    let r = c.args.received.now in
    sym (c.explain_in.ensures (take r.setup.pages r.words))
