-- `formed::well_formed_levels` meets its contract: the levels 1, 2 and 3, one after the other. Assumes nothing.
use Rattle.std.proofs.Common.{◌≡◌, ℕ, suc, ◌+◌, Bool, refl, ap, ◌∙◌, arith, rules, tests}
use Rattle.std.proofs.lemmas.Iterator.{YieldsList-from_range}
use Rattle.std.proofs.lemmas.Iterator.Search.{all_from_yields_List}
use Rattle.model.proofs.BoundedLaws.{all-range}
use Rattle.model.specs.State.{config_in, in_set, mask_in}
use Rattle.model.specs.WellFormed.{well_formed_level_by}
use Rattle.partition.specs.PartitionView.{configs_in, enabled_in, mbec_in}
use Rattle.partition.proofs.formed.well_formed_levels.Goals as goal
use Rattle.partition.proofs.formed.well_formed_levels.Goals.{After-all}

abbrev formed : After-all → ℕ → Bool
formed c l =
    let a = c.args in
    well_formed_level_by (mask_in a.shape a.pages a.masks.now l) (config_in a.shape (configs_in a.levels.now) l)
    (in_set a.shape (enabled_in a.levels.now) l) (in_set a.shape (mbec_in a.levels.now) l)

pub returns : goal.returns
returns c =
    all_from_yields_List (formed c) _ _ c.all.result c.all.ensures.ran (YieldsList-from_range 1 4 3 (cc) refl) (λ x b q k. search (rules, tests))
    ∙ all-range 1 3 (formed c) (λ i. formed c (suc i)) (λ i h. ap (formed c) (let e : 1 + i ≡ suc i = omega arith in e))
