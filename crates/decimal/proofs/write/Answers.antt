-- `decimal::write` meets its contract: a number below 10 has one digit.
-- Assumes nothing.
use mathlib.Core.Path.{sym}
use native.Mathlib.Omega.{arith}
use Rattle.decimal.proofs.Digits.{only-digit}
use Rattle.decimal.proofs.TextRoom.{after-no-room, after-room, with-no-room, with-room}
use Rattle.decimal.proofs.write.Goals as goal

pub returns-then-out-at : goal.returns-then-out-at
returns-then-out-at c =
    let a = c.args in
    rw (only-digit a.value (omega arith)) record { value = sym (after-no-room _ _ _ (omega arith)); out_after = sym (with-no-room _ _ _ (omega arith)) }

pub returns : goal.returns
returns c =
    let a = c.args in
    rw (only-digit a.value (omega arith)) record { value = sym (after-room _ _ _ (omega arith)); out_after = sym (with-room _ _ _ (omega arith)) }
