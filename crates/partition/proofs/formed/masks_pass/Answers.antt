-- `masks_pass` meets its contract: the mask of each page passes. Assumes nothing.
use Rattle.std.proofs.Common.{◌≡◌, ◌+◌, refl, ap, ℕ, Bool, ◌∙◌, arith, rules, tests}
use Rattle.std.proofs.lemmas.Iterator.{YieldsList-from_range}
use Rattle.std.proofs.lemmas.Iterator.Search.{all_from_yields_List}
use Rattle.model.proofs.BoundedLaws.{all-range}
use Rattle.model.specs.State.{mask_in}
use Rattle.partition.specs.Denying.{mask_passes}
use Rattle.partition.proofs.formed.masks_pass.Goals as goal
use Rattle.partition.proofs.formed.masks_pass.Goals.{After-all}

abbrev passes : After-all → ℕ → Bool
passes c p = let a = c.args in mask_passes a.strict (mask_in a.shape a.pages a.masks.now a.level.0 p)

pub returns : goal.returns
returns c =
    all_from_yields_List (passes c) _ _ c.all.result c.all.ensures.ran (YieldsList-from_range 0 64 64 (cc) refl) (λ x b q k. search (rules, tests))
    ∙ all-range 0 64 (passes c) (passes c) (λ i h. ap (passes c) (let e : 0 + i ≡ i = omega arith in e))
