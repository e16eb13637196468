-- `xalevinda::written::whole` meets its contract: where there is known to be room for the text it is written at once; else the first run
-- counts, and the second writes where the text has room. Assumes nothing.
use Prim.Native.Nat.{◌^◌, ◌<◌, ◌≤◌}
use native.Mathlib.Omega.{arith}
use lib.ListN.{length}
use Rattle.xalevinda.proofs.Storing.{stored-nothing, stored-size, stored-whole}
use Rattle.xalevinda.proofs.written.whole.Goals as goal

pub returns-then-enough-out : goal.returns-then-enough-out
returns-then-enough-out g c =
    let bounded : length c.args.out.now < 2 ^ 63 = omega (arith, c.well_formed) in
    let size = stored-size c.write.ensures in
    let fits : c.write.result ≤ length c.args.out.now = omega (arith, size, c.enough.ensures, c.if-enough-out.true) in
    record { size = size; out = stored-whole c.write.ensures (bounded) size fits }

pub returns-then-size-out : goal.returns-then-size-out
returns-then-size-out g c =
    let bounded : length c.args.out.now < 2 ^ 63 = omega (arith, c.well_formed) in
    let size = stored-size c.write-size.ensures in
    record { size = size; out = stored-whole c.write-then-size-out.ensures (bounded) size c.if-size-out.true }

pub returns-else-size-out : goal.returns-else-size-out
returns-else-size-out g c =
    let size = stored-size c.write-size.ensures in
    record { size = size; out = stored-nothing _ _ c.args.out.now size c.if-size-out.false }
