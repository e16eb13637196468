-- `well_formed_vp::well_moded` meets its contract: CR0 is read where the level is enabled. Assumes nothing.
use Rattle.state.proofs.well_formed_vp.well_moded.Goals as goal

pub returns : goal.returns
returns c = rw (c.has_bit-protected.ensures, c.private_of.ensures, c.enabled_at-enabled.ensures)
