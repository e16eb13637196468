-- `well_formed_vp::well_configured_below` meets its contract: of no level but a lower one is anything held  Assumes nothing.
use Rattle.state.proofs.FormedClauses.{below-configured}
use Rattle.state.proofs.well_formed_vp.well_configured_below.Goals as goal

pub returns : goal.returns
returns c =
    rw (
      c.well_configured-two.ensures,
      c.secure_of-3.ensures,
      c.well_configured-one.ensures,
      c.secure_of-2.ensures,
      c.well_configured-zero.ensures,
      c.secure_of.ensures,
    )
    (below-configured _ _ _ _ c.requires)
