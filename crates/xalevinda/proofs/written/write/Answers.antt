-- `xalevinda::written::write` meets its contract: what is left of the script gives what is left to write. Assumes nothing.
use mathlib.Core.Path.{◌≡◌, refl, sym, ◌∙◌}
use Prim.Native.Nat.{◌^◌, ◌<◌}
use native.Mathlib.Omega.{arith}
use lib.ListN.{length}
use Rattle.std.proofs.Common.{rules}
use Rattle.passing.proofs.UsedChunks.{less-left}
use Rattle.session.specs.Session.{consumed, fed, finished, last_text, progress_of}
use Rattle.xalevinda.proofs.Listed.{listed-done, listed-fed}
use Rattle.xalevinda.proofs.Storing.{partly-done, partly-more, partly-start}
use Rattle.xalevinda.proofs.written.write.Goals as goal

pub loop-rest-init : goal.loop-rest-init
loop-rest-init c =
    let a = c.args in
    (refl, partly-start (finished (consumed (progress_of a.start) a.script.now)) a.begun a.out.now (omega (arith, c.well_formed)))

pub loop-rest-smaller : goal.loop-rest-smaller
loop-rest-smaller c =
    let some : 0 < length c.loop-rest.rest.now = search rules in
    less-left (progress_of c.loop-rest.s) c.loop-rest.rest.now (length c.loop-rest.records) c.feed-fed.ensures.used
    (omega (arith, c.loop-rest.invariant.0)) some

pub loop-rest-preserved : goal.loop-rest-preserved
loop-rest-preserved c =
    let bounded : length c.args.out.now < 2 ^ 63 = omega (arith, c.well_formed) in
    let at = c.loop-rest in
    let e = c.feed-fed.ensures in
    let f = fed (progress_of at.s) at.rest.now (length at.records) in (
      at.invariant.0 ∙ sym c.feed-fed.auto.out,
      partly-more at.invariant.1 (bounded) at.records f.text e.wrote e.out e.bounds.wrote-within c.added-size.ensures c.put.ensures.out_after _
          (rw (e.session, e.used) (listed-fed (progress_of at.s) at.rest.now (length at.records))),
    )

pub returns : goal.returns
returns c =
    let bounded : length c.args.out.now < 2 ^ 63 = omega (arith, c.well_formed) in
    let at = c.loop-rest in
    let size : length at.rest.now ≡ 0 = search rules in
    let e = c.finish-ended.ensures in
    partly-done at.invariant.1 (bounded) _ (last_text (progress_of at.s)) e.wrote e.out e.bounds.wrote-within c.added.ensures c.put-2.ensures.out_after
    (listed-done (progress_of at.s) at.rest.now size)
