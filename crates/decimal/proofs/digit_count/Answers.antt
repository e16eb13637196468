-- `decimal::digit_count` meets its contract: the number's power of 10 gives how many digits it has. Assumes nothing.
use native.Mathlib.Omega.{arith}
use Rattle.decimal.proofs.Digits.{digits-by-log}
use Rattle.decimal.proofs.digit_count.Goals as goal

pub returns : goal.returns
returns c =
    let log = c.checked_ilog10.ensures in
    omega (arith, c.unwrap_or.ensures, digits-by-log _ _ log.none log.power_le log.next_power_gt log.bound)
