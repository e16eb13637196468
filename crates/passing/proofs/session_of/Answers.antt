-- `passing::session_of` meets its contract: as many words are lent as there are pages. Assumes nothing.
use mathlib.Core.Path.{◌≡◌}
use Prim.Native.Nat.{min}
use native.Mathlib.Omega.{arith}
use Rattle.passing.proofs.session_of.Goals as goal

pub returns : goal.returns
returns c =
    let r = c.args.received in
    let few : min r.setup.pages 64 ≡ r.setup.pages = omega (arith, c.requires) in
    rw few at c.on_machine.ensures
