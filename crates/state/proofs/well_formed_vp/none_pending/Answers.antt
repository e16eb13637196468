-- `well_formed_vp::none_pending` meets its contract: the four words, one after the other. Assumes nothing.
use Rattle.std.proofs.Common.{◌≡◌, ◌+◌, refl, ap, ℕ, Bool, ◌∙◌, arith, rules, tests, eqb}
use Rattle.std.proofs.lemmas.Iterator.{YieldsList-from_range}
use Rattle.std.proofs.lemmas.Iterator.Search.{all_from_yields_List}
use Rattle.model.proofs.BoundedLaws.{all-range}
use Rattle.model.specs.Arrays.{number_at}
use Rattle.model.specs.State.{context}
use Rattle.processor.proofs.RecordStores.{pending-read}
use Rattle.processor.specs.Record.{vp_of, word_in}
use Rattle.state.proofs.well_formed_vp.none_pending.Goals as goal
use Rattle.state.proofs.well_formed_vp.none_pending.Goals.{After-all}

-- No vector of a word is pending.
abbrev empty : After-all → ℕ → Bool
empty c i = let a = c.args in eqb (word_in a.shape a.vp.now a.level.0 (14 + i)) 0

pub returns : goal.returns
returns c =
    let a = c.args in
    all_from_yields_List (empty c) _ _ c.all.result c.all.ensures.ran (YieldsList-from_range 0 4 4 (cc) refl) (λ x b q k. search (rules, tests))
    ∙ all-range 0 4 (empty c) (λ i. eqb (number_at 4 (context a.shape (vp_of a.vp.now) a.level.0).pending i) 0)
    (λ i h. ap (empty c) (let e : 0 + i ≡ i = omega arith in e) ∙ ap (λ n. eqb n 0) (pending-read a.shape a.vp.now a.level.0 i h))
