-- `well_formed_state::well_formed` meets its contract: the clauses of the rule, each by its own test (`state-formed`). Assumes nothing.
use Rattle.model.specs.State.{processors, max_level_of, top, pages, shape, partition, enabled_for, mbec_for, config_of, mask_of}
use Rattle.model.specs.WellFormed.{well_formed_level}
use Rattle.partition.specs.PartitionView.{partition_of}
use Rattle.state.specs.Lent.{machine_of, lent}
use Rattle.state.proofs.FormedClauses.{state-formed}
use Rattle.state.proofs.well_formed_state.well_formed.Goals as goal

pub returns : goal.returns
unfolding machine_of partition_of processors max_level_of top pages shape partition well_formed_level enabled_for mbec_for config_of mask_of
returns c =
    let a = c.args in
    let masks = a.parts.now.masks in
    rw (
      c.mbec_for-lowest.ensures,
      c.valid_mask-host.ensures,
      c.well_formed_levels-protections.ensures,
      c.well_formed_place-three.ensures masks,
      c.well_formed_place-two.ensures masks,
      c.well_formed_place-one.ensures masks,
      c.well_formed_place-zero.ensures masks,
      c.in_range-sized.ensures,
    )
    (state-formed (lent a.setup a.parts.now.levels masks a.parts.now.vps a.words.now))
