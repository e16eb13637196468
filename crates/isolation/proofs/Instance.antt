-- The instance holds, by the theorem: its hypotheses are computed. What the theorem says of it is read off.
-- Assumes nothing.
use mathlib.Core.Path.{refl, sym}
use native.Mathlib.Omega.{arith}
use Rattle.model.specs.Answers.{first_of}
use Rattle.model.specs.Arrays.{number_at, stored}
use Rattle.model.specs.Bounded.{every, any, least, highest, bits, all_of}
use Rattle.model.specs.Entry.{enter, is_ready, highest_ready, next_up, advanced, called, restored, waiting, reentered, left, returned, enters, interrupted, started, acknowledged}
use Rattle.model.specs.Events.{own, configured, locked}
use Rattle.model.specs.Masks.{protects_in, protects}
use Rattle.model.specs.Memory.{is_user, needed, mbec_on, smep_allows, mbec_counts, denies_in, denies, denied, receiver, host_denies_by, host_denies}
use Rattle.model.specs.Registers.{is_private, private_of, shared_of, register_of}
use Rattle.model.specs.State.{in_range, processors, shape, top, max_level_of, pages, is_level, is_processor, is_page, vp, context, partition, in_set, active_of, active, enabled_at, enabled_on, enabled_anywhere, enabled_for, mbec_for, config_in, config_of, mask_in, mask_of, host_mask_of, word_of, secure_of, is_pending}
use Rattle.model.specs.Step.{rule, rule_of, maker, intercepted, next_for, ruled, step, answers, final}
use Rattle.model.specs.Updates.{with_level, enable_level, set_config, set_mask, filled, fill_masks, put_context, set_shared, set_private, set_register, set_tpr, set_pending, set_secure, cleared, unlocked, put_vp, put_partition, set_word, on_vp, on_partition}
use Rattle.model.specs.Watching.{asked_in, asks_write, watcher}
use Rattle.model.specs.WellFormed.{well_sized, well_entered, never_entered, well_formed_context, well_formed_vp, well_formed_level, well_formed_parts, well_moded_vp, well_moded, well_formed}
use Rattle.isolation.specs.Example.{one, two, guarded, events, Instance}
use Rattle.model.specs.Hide.{closed, hides, hide_set, hide_context, hide_level, hide_vp, hide_partition, is_mask, hide_machine, hide, quiet_maker}
use Rattle.isolation.specs.Isolation.{Isolated, quiet}
use Rattle.model.specs.MapAt.{map_at}
use Rattle.isolation.proofs.Runs.{isolation}

pub instance : Instance
unfolding asked_in asks_write watcher every any least highest bits all_of number_at stored first_of enter is_ready highest_ready next_up advanced called restored waiting reentered left returned enters interrupted started acknowledged on_vp own locked protects_in protects configured is_user needed mbec_on smep_allows mbec_counts denies_in denies denied receiver host_denies_by host_denies is_private private_of shared_of register_of processors shape top max_level_of pages is_level is_processor is_page vp context partition in_set active_of active enabled_at enabled_on enabled_anywhere enabled_for mbec_for config_in config_of mask_in mask_of host_mask_of word_of secure_of is_pending rule rule_of maker intercepted next_for ruled step answers final with_level enable_level set_config set_mask filled fill_masks put_context set_shared set_private set_register set_tpr set_pending set_secure cleared unlocked put_vp put_partition on_partition set_word well_sized well_entered never_entered well_formed_context well_formed_vp well_formed_level well_formed_parts well_moded_vp well_moded well_formed in_range map_at closed hides hide_set hide_context hide_level hide_vp hide_partition is_mask hide_machine hide quiet_maker quiet
instance =
    let i : Isolated 1 one two events = isolation 1 one two events (omega arith) refl refl refl refl in
    record {
      isolated = i;
      first-answers = refl;
      second-answers = sym i.same;
      rip-kept = i.kept'.registers 0 1 0 refl refl;
      rsp-kept = i.kept'.registers 0 2 1 refl refl;
      word_kept = i.kept'.pages 1 refl;
      rip-first = i.first 1 2 0 refl refl refl;
      rip-guarded = λ es q. (isolation 1 guarded guarded es (omega arith) refl refl refl q).kept.registers 1 1 0 refl refl;
    }
