-- `passing::consume` meets its contract: from what is left of the chunk the session comes as far as from all of it. Assumes nothing.
use mathlib.Core.List.{List}
use mathlib.Core.Path.{◌≡◌, refl, sym, ap, ◌∙◌}
use Prim.Native.Nat.{ℕ, ◌<◌}
use native.Mathlib.Omega.{arith}
use lib.ListN.{length}
use Rattle.std.proofs.Common.{rules}
use Rattle.session.proofs.Callers.{reached-session, reached-start}
use Rattle.session.specs.Session.{consumed, progress_of}
use Rattle.passing.proofs.UsedChunks.{less-left, none-left, used-on}
use Rattle.passing.proofs.consume.Goals as goal

pub loop-rest-init : goal.loop-rest-init
loop-rest-init c = (refl, refl)

pub loop-rest-smaller : goal.loop-rest-smaller
loop-rest-smaller c =
    let some : 0 < length c.loop-rest.rest.now = search rules in
    less-left (progress_of c.loop-rest.s) c.loop-rest.rest.now (length c.loop-rest.records) c.feed-fed.ensures.used
    (omega (arith, c.loop-rest.invariant.0)) some

pub loop-rest-preserved : goal.loop-rest-preserved
loop-rest-preserved c =
    let e = c.feed-fed.ensures in (
      c.loop-rest.invariant.0 ∙ sym c.feed-fed.auto.out,
      c.loop-rest.invariant.1 ∙ rw (e.session, e.used) (used-on (progress_of c.loop-rest.s) c.loop-rest.rest.now (length c.loop-rest.records)),
    )

pub returns : goal.returns
returns c =
    let size : length c.loop-rest.rest.now ≡ 0 = search rules in
    let nothing = none-left c.loop-rest.rest.now size in
    reached-session c.loop-rest.s (reached-start _) ∙ sym (c.loop-rest.invariant.1 ∙ ap (λ (l : List ℕ). (consumed (progress_of c.loop-rest.s) l).progress) nothing)
