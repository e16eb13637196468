-- `well_formed_vp::well_formed_vp` meets its contract: level 0, the active level, and each level's context. Assumes nothing.
use Rattle.std.proofs.Common.{◌≡◌, ◌+◌, ◌&&◌, refl, ap, ℕ, List, Bool, ◌∙◌, arith, rules, tests}
use Rattle.std.proofs.lemmas.Iterator.{YieldsList-from_range}
use Rattle.std.proofs.lemmas.Iterator.Search.{all_from_yields_List}
use Rattle.model.proofs.BoundedLaws.{all-range}
use Rattle.model.specs.Bounded.{every}
use Rattle.model.specs.declared.machine.Shape.{Shape}
use Rattle.model.specs.declared.machine.VirtualProcessor.{VirtualProcessor}
use Rattle.model.specs.State.{context, enabled_at, in_set}
use Rattle.model.specs.WellFormed.{well_formed_context, well_formed_vp}
use Rattle.partition.specs.PartitionView.{enabled_in, mbec_in, partition_of}
use Rattle.processor.proofs.RecordWords.{contexts-length}
use Rattle.processor.specs.Record.{vp_of}
use Rattle.state.proofs.FormedClauses.{all-joined}
use Rattle.state.proofs.well_formed_vp.well_formed_vp.Goals as goal

-- A level's context is well formed.
abbrev formed : Shape → List ℕ → VirtualProcessor → ℕ → Bool
formed z levels p l =
    let x = context z p l in
    well_formed_context l (in_set z (enabled_in levels) l) (enabled_at z p l) (in_set z (mbec_in levels) l) (enabled_at z p x.control.from.0) x

pub returns : goal.returns
unfolding well_formed_vp partition_of
returns c = λ masks.
    let a = c.args in
    let each : c.all-formed.result ≡ every 4 (formed a.shape a.levels.now (vp_of a.vp.now)) =
    all_from_yields_List (formed a.shape a.levels.now (vp_of a.vp.now)) _ _ c.all-formed.result c.all-formed.ensures.ran (YieldsList-from_range 0 4 4 (cc) refl) (λ x b q k. search (rules, tests))
    ∙ all-range 0 4 (formed a.shape a.levels.now (vp_of a.vp.now)) (formed a.shape a.levels.now (vp_of a.vp.now))
    (λ i h. ap (formed a.shape a.levels.now (vp_of a.vp.now)) (let e : 0 + i ≡ i = omega arith in e)) in
    ap (λ b. c.enabled_at-lowest.result && c.enabled_at-active.result && b) each
    ∙ rw (c.enabled_at-active.ensures, c.active_of.ensures, c.enabled_at-lowest.ensures, contexts-length _) (all-joined _ _)
