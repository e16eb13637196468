-- `xalevinda::xalevinda_save` meets its contract: the text that `passing` saves is put where it has room. Assumes nothing.
use mathlib.Core.Path.{◌≡◌, ap, ◌∙◌}
use native.Mathlib.Omega.{arith}
use Rattle.passing.proofs.SavedSessions.{saved-session}
use Rattle.passing.specs.Passing.{saved}
use Rattle.passing.specs.PassingSessions.{saved_text}
use Rattle.session.specs.Session.{Progress, consumed, last_ended, progress_of}
use Rattle.xalevinda.proofs.ListingRoom.{saved-at-most}
use Rattle.xalevinda.proofs.Storing.{own-text}
use Rattle.xalevinda.proofs.xalevinda_save.Goals as goal

pub returns : goal.returns
returns c =
    let script = c.args.script.now in
    let e = c.save-size.ensures in
    let last = (last_ended (progress_of c.consume-after.result)).progress in
    let same : saved_text last ≡ saved script =
    ap (λ (p : Progress). saved_text (last_ended p).progress) (c.consume-after.ensures ∙ ap (λ (p : Progress). (consumed p script).progress) c.fresh-start.ensures)
    ∙ saved-session script in
    let text = own-text _ (saved_text last) e.wrote e.out e.bounds.wrote-within in
    rw (← same) record { size = omega (arith, e.wrote, saved-at-most last); out = rw text at c.put.ensures.out_after }
