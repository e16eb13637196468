-- `xalevinda::written::Resumed::write` meets its contract: line 0, and then what the session writes of what follows the records. Assumes
-- nothing.
use mathlib.Core.List.{List, ◌++◌, append-nil}
use mathlib.Core.Path.{◌≡◌, sym, ap, ◌∙◌}
use Prim.Native.Nat.{ℕ, ◌+◌, ◌^◌, ◌<◌}
use native.Mathlib.Omega.{arith}
use lib.ListN.{drop, length}
use Rattle.passing.proofs.ResumedSessions.{resumed-session}
use Rattle.passing.specs.Passing.{resumed}
use Rattle.passing.specs.PassingSessions.{opened}
use Rattle.session.proofs.Callers.{part-whole}
use Rattle.session.specs.Session.{consumed, finished}
use Rattle.xalevinda.specs.Exports.{at_most_word}
use Rattle.xalevinda.specs.StoredListing.{Stored}
use Rattle.xalevinda.proofs.ListingRoom.{opened-at-most}
use Rattle.xalevinda.proofs.Storing.{own-text, stored-put, stored-then}
use Rattle.xalevinda.proofs.written.ResumedText.write.Goals as goal

-- Line 0 and what the session writes of the rest are what resuming gives.
both : (input : List ℕ) → let f = opened input in f.text ++ finished (consumed f.progress (drop f.used input)) ≡ resumed input
both input =
    let f = opened input in
    ap (λ (l : List ℕ). f.text ++ finished (consumed f.progress l)) (sym (append-nil (drop f.used input))) ∙ resumed-session.whole input

pub returns : goal.returns
returns c =
    let bounded : length c.args.out.now < 2 ^ 63 = omega (arith, c.well_formed) in
    let input = c.args.input.now in
    let f = opened input in
    let e = c.open-opened.ensures in
    let counted : c.open-opened.result.wrote ≡ at_most_word (0 + length f.text) = omega (arith, e.wrote, opened-at-most input) in
    let line = own-text _ f.text e.wrote e.out e.bounds.wrote-within in
    let zero : Stored f.text 0 c.open-opened.result.wrote c.args.out.now c.put.new.out = stored-put counted (rw line at c.put.ensures.out_after) in
    let rest : Stored (finished (consumed f.progress (drop f.used input))) c.open-opened.result.wrote c.write.result c.put.new.out c.write.new.out =
    rw (← e.session, ← e.used, ← part-whole input c.open-opened.result.used) c.write.ensures in
    rw (← both input) (stored-then zero rest (bounded))
