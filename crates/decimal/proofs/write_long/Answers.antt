-- `decimal::write_long` meets its contract: the loop stores the digits from the last to the first. Assumes nothing.
use mathlib.Core.Path.{sym, ◌∙◌}
use native.Mathlib.Omega.{arith}
use Rattle.decimal.specs.Write.{decimal}
use Rattle.decimal.proofs.TextRoom.{after-no-room, after-room, with-no-room, with-room}
use Rattle.decimal.proofs.Writing.{one-stored}
use Rattle.decimal.proofs.write_long.Goals as goal

pub returns-then-out-at : goal.returns-then-out-at
returns-then-out-at c = record { value = sym (after-no-room _ _ _ (omega arith)); out_after = sym (with-no-room _ _ _ (omega arith)) }

pub returns-then-out-at-2 : goal.returns-then-out-at-2
returns-then-out-at-2 c = record { value = sym (after-no-room _ _ _ (omega arith)); out_after = sym (with-no-room _ _ _ (omega arith)) }

pub loop-i-preserved : goal.loop-i-preserved
loop-i-preserved c = one-stored _ _ _ _ _ _ c.loop-i-test.true c.loop-i.invariant

pub returns : goal.returns
returns c =
    let a = c.args in
    record {
      value = omega (arith, after-room a.out.now a.at (decimal a.value) (omega arith));
      out_after = c.loop-i.invariant.whole c.loop-i-test.false ∙ sym (with-room _ _ _ (omega arith));
    }
