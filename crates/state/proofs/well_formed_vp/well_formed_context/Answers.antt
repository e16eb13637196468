-- `well_formed_vp::well_formed_context` meets its contract: the clauses of the definition, joined. Assumes nothing.
use mathlib.Core.Path.{◌∙◌}
use native.Mathlib.Omega.{arith}
use Rattle.model.specs.WellFormed.{well_formed_context}
use Rattle.state.proofs.FormedClauses.{all-joined}
use Rattle.processor.proofs.RecordStores.{pending-read, tpr-read}
use Rattle.state.proofs.well_formed_vp.well_formed_context.Goals as goal

pub returns : goal.returns
unfolding well_formed_context
returns c =
    let a = c.args in
    rw (
      c.intercept_reserved_set-reserved.ensures,
      c.watch_of.ensures,
      c.none_pending-none.ensures,
      c.take-low.ensures,
      c.row_word-pending.ensures ∙ pending-read a.shape a.vp.now a.level.0 0 (omega arith),
      c.row_word-class.ensures ∙ tpr-read a.shape a.vp.now a.level.0,
      c.well_configured_below-configured.ensures,
      c.never_entered-never.ensures,
      c.well_entered-entered.ensures,
      c.enabled_at.ensures,
      c.control_of-control.ensures,
      c.enabled_at-enabled.ensures,
      c.mbec_for-mbec.ensures,
      c.enabled_for-on.ensures,
    )
    (all-joined _ _)
