-- `well_formed_state::well_formed_place` meets its contract: the two tests of a processor, where there is one. Assumes nothing.
use Rattle.state.proofs.well_formed_state.well_formed_place.Goals as goal

pub returns : goal.returns
returns c = λ masks. rw (c.well_moded_vp-protected.ensures, c.well_formed_vp-formed.ensures masks)
