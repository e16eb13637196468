-- The eight proved cases hold: each run is computed from the definitions. Assumes nothing.
use mathlib.Core.Path.{refl}
use Rattle.model.specs.Answers.{first_of}
use Rattle.model.specs.Arrays.{number_at, stored}
use Rattle.model.specs.Bounded.{every, any, least, highest, bits, all_of}
use Rattle.model.specs.Claims.{AllGiven}
use Rattle.model.specs.Entry.{enter, is_ready, highest_ready, next_up, advanced, called, restored, waiting, reentered, left, returned, enters, interrupted, started, acknowledged}
use Rattle.model.specs.Events.{own, configured, locked}
use Rattle.model.specs.Fresh.{fresh}
use Rattle.model.specs.Masks.{protects_in, protects}
use Rattle.model.specs.Memory.{is_user, needed, mbec_on, smep_allows, mbec_counts, denies_in, denies, denied, receiver, host_denies_by, host_denies}
use Rattle.model.specs.Registers.{is_private, private_of, shared_of, register_of}
use Rattle.model.specs.State.{in_range, processors, shape, top, max_level_of, pages, is_level, is_processor, is_page, vp, context, partition, in_set, active_of, active, enabled_at, enabled_on, enabled_anywhere, enabled_for, mbec_for, config_in, config_of, mask_in, mask_of, host_mask_of, word_of, secure_of, is_pending}
use Rattle.model.specs.Step.{rule, rule_of, maker, intercepted, next_for, ruled, step, final}
use Rattle.model.specs.Updates.{with_level, enable_level, set_config, set_mask, filled, fill_masks, put_context, set_shared, set_private, set_register, set_tpr, set_pending, set_secure, set_watch, cleared, unlocked, put_vp, put_partition, set_word, on_vp, on_partition}
use Rattle.model.specs.Watching.{asked_in, asks_read, mask_for, changes_masked, asks_write, watcher}
use Rattle.model.specs.WellFormed.{well_sized, well_entered, never_entered, well_formed_context, well_formed_vp, well_formed_level, well_formed_parts, well_moded_vp, well_moded, well_formed}

pub all-given : AllGiven
unfolding every any least highest bits all_of number_at stored first_of enter is_ready highest_ready next_up advanced called restored waiting reentered left returned enters interrupted started acknowledged on_vp own locked fresh protects_in protects configured is_user needed mbec_on smep_allows mbec_counts denies_in denies denied receiver host_denies_by host_denies is_private private_of shared_of register_of processors shape top max_level_of pages is_level is_processor is_page vp context partition in_set active_of active enabled_at enabled_on enabled_anywhere enabled_for mbec_for config_in config_of mask_in mask_of host_mask_of word_of secure_of is_pending rule rule_of maker intercepted next_for ruled step final with_level enable_level set_config set_mask filled fill_masks put_context set_shared set_private set_register set_tpr set_pending set_secure set_watch cleared unlocked put_vp put_partition on_partition set_word well_sized well_entered never_entered well_formed_context well_formed_vp well_formed_level well_formed_parts well_moded_vp well_moded well_formed in_range asked_in asks_read mask_for changes_masked asks_write watcher
all-given = refl
