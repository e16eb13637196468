-- `well_formed_level` meets its contract: the clauses of the rule, each by its own test. Assumes nothing.
use mathlib.Core.Bool.{◌&&◌}
use Rattle.model.specs.Masks.{default_mask, turns_on}
use Rattle.model.specs.State.{in_set, config_in, mask_in}
use Rattle.partition.specs.PartitionView.{mbec_in, configs_in}
use Rattle.partition.proofs.Clauses.{clauses}
use Rattle.partition.proofs.formed.well_formed_level.Goals as goal

pub returns : goal.returns
returns c =
    let a = c.args in
    let config = config_in a.shape (configs_in a.levels.now) a.level.0 in
    let mbec = in_set a.shape (mbec_in a.levels.now) a.level.0 in
    rw (c.reserved_set-reserved.ensures, c.mask_passes-default_passes.ensures, c.masks_pass-pages_pass.ensures)
    (rw (c.default_mask-default.ensures, c.turns_on-on.ensures, c.config_at-word.ensures, c.mbec_for-mbec.ensures, c.enabled_for-enabled.ensures)
    (clauses (mbec && turns_on config) 64 (mask_in a.shape a.pages a.masks.now a.level.0) (default_mask config) _ _ _))
