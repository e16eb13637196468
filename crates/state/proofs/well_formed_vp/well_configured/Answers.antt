-- `well_formed_vp::well_configured` meets its contract: the reserved bits and the MBEC bit are read. Assumes nothing.
use Rattle.state.proofs.well_formed_vp.well_configured.Goals as goal

pub returns : goal.returns
returns c = rw (c.unpack-on.ensures, c.secure_reserved_set-reserved.ensures)
