-- `well_formed_vp::well_moded_vp` meets its contract: the levels 1, 2 and 3, one after the other; level 0 may be in real mode.
-- Assumes nothing.
use Rattle.std.proofs.Common.{◌≡◌, ◌+◌, suc, refl, ap, ℕ, Bool, ◌∙◌, arith, rules, tests}
use Rattle.std.proofs.lemmas.Iterator.{YieldsList-from_range}
use Rattle.std.proofs.lemmas.Iterator.Search.{all_from_yields_List}
use Rattle.word.specs.Field.{bit}
use Rattle.model.proofs.BoundedLaws.{all-range}
use Rattle.model.specs.Bounded.{every}
use Rattle.model.specs.Registers.{cr0, protected_bit, private_of}
use Rattle.model.specs.State.{enabled_at}
use Rattle.model.specs.WellFormed.{◌implies◌, well_moded_vp}
use Rattle.processor.specs.Record.{vp_of}
use Rattle.state.proofs.well_formed_vp.well_moded_vp.Goals as goal
use Rattle.state.proofs.well_formed_vp.well_moded_vp.Goals.{After-all}

-- A level is not enabled, or not in real mode.
abbrev moded : After-all → ℕ → Bool
moded c l =
    let a = c.args in
    let p = vp_of a.vp.now in
    enabled_at a.shape p l implies bit (private_of a.shape p l cr0) protected_bit

pub returns : goal.returns
unfolding well_moded_vp every
returns c =
    let each : c.all.result ≡ every 3 (λ i. moded c (suc i)) =
    all_from_yields_List (moded c) _ _ c.all.result c.all.ensures.ran (YieldsList-from_range 1 4 3 (cc) refl) (λ x b q k. search (rules, tests))
    ∙ all-range 1 3 (moded c) (λ i. moded c (suc i)) (λ i h. ap (moded c) (let e : 1 + i ≡ suc i = omega arith in e)) in
    rw each
