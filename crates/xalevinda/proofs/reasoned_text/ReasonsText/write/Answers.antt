-- `xalevinda::reasoned_text::Reasons::write` meets its contract: what is left of the script gives what is left to write. Assumes nothing.
use mathlib.Core.Path.{◌≡◌, ap, ◌∙◌}
use Prim.Native.Nat.{◌^◌, ◌<◌}
use native.Mathlib.Omega.{arith}
use lib.ListN.{length, take}
use Rattle.std.proofs.Common.{rules}
use Rattle.reason.specs.ReasonedListing.{reasoned}
use Rattle.reasoned.proofs.WholeReasons.{told-whole}
use Rattle.reasoned.specs.ReasonedSession.{last_told, line_used, told}
use Rattle.session.specs.Session.{Progress, progress_of}
use Rattle.xalevinda.proofs.ReasonsStored.{reasons-done, reasons-fed, reasons-less, reasons_of}
use Rattle.xalevinda.proofs.Storing.{partly-done, partly-more, partly-start}
use Rattle.xalevinda.proofs.reasoned_text.ReasonsText.write.Goals as goal

pub loop-rest-init : goal.loop-rest-init
loop-rest-init c =
    let script = c.args.script.now in
    rw (ap (λ (p : Progress). reasons_of p script) c.fresh-s.ensures ∙ told-whole script) (partly-start (reasoned script) 0 c.args.out.now (omega arith))

pub slice_bounds-line-end : goal.slice_bounds-line-end
slice_bounds-line-end c = c.feed_line-fed.ensures.bounds.wrote-within

pub slice_bounds-put-end : goal.slice_bounds-put-end
slice_bounds-put-end c = c.feed_line-fed.ensures.bounds.wrote-taken

pub loop-rest-smaller : goal.loop-rest-smaller
loop-rest-smaller c =
    let some : 0 < length c.loop-rest.rest.now = search rules in
    reasons-less c.loop-rest.rest.now _ c.feed_line-fed.ensures.used some

pub loop-rest-preserved : goal.loop-rest-preserved
loop-rest-preserved c =
    let bounded : length c.args.out.now < 2 ^ 63 = omega (arith, c.well_formed) in
    let at = c.loop-rest in
    let e = c.feed_line-fed.ensures in
    let rest = at.rest.now in
    partly-more at.invariant (bounded) at.line (told (progress_of at.s) (take (line_used rest) rest)) e.wrote e.out e.bounds.wrote-within c.added-size.ensures c.put.ensures.out_after _
    (rw (e.session, e.used) (reasons-fed (progress_of at.s) rest (line_used rest)))

pub slice_bounds-last-end : goal.slice_bounds-last-end
slice_bounds-last-end c = c.finish-wrote.ensures.bounds.wrote-within

pub slice_bounds-put-end-2 : goal.slice_bounds-put-end-2
slice_bounds-put-end-2 c = c.finish-wrote.ensures.bounds.wrote-taken

pub returns : goal.returns
returns c =
    let bounded : length c.args.out.now < 2 ^ 63 = omega (arith, c.well_formed) in
    let at = c.loop-rest in
    let size : length at.rest.now ≡ 0 = search rules in
    let e = c.finish-wrote.ensures in
    partly-done at.invariant (bounded) _ (last_told (progress_of at.s)) e.wrote e.out e.bounds.wrote-within c.added.ensures c.put-2.ensures.out_after
    (reasons-done at.s at.rest.now size)
