-- `xalevinda::xalevinda_explain` meets its contract: the text of `inquiry` is put where it has room. Assumes nothing.
use native.Mathlib.Omega.{arith}
use Rattle.xalevinda.proofs.xalevinda_explain.Goals as goal

pub returns : goal.returns
returns c =
    let w = c.explain-size.ensures.bounds in
    record { size = omega (arith, w.counted, w.within); out = rw w.front at c.put.ensures.out_after }
