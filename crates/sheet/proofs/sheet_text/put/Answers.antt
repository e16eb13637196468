-- The text is stored from `at` on. Assumes nothing.
use Rattle.std.proofs.Common.{sym, arith, ◌∙◌}
use Rattle.decimal.proofs.TextRoom.{after-no-room, after-room, with-no-room, with-room}
use Rattle.sheet.proofs.sheet_text.put.Goals as goal

pub returns-then-out-at-clause-value : goal.returns-then-out-at-clause-value
returns-then-out-at-clause-value c = sym (after-no-room c.args.out.now c.args.at c.args.text.now (omega (arith, c.if-out-at.true)))

pub returns-then-out-at-clause-out_after : goal.returns-then-out-at-clause-out_after
returns-then-out-at-clause-out_after c = sym (with-no-room c.args.out.now c.args.at c.args.text.now (omega (arith, c.if-out-at.true)))

pub returns-then-out-at-2-clause-value : goal.returns-then-out-at-2-clause-value
returns-then-out-at-2-clause-value c =
    sym (after-no-room c.args.out.now c.args.at c.args.text.now (omega (arith, c.if-out-at.false, c.if-out-at-2.true)))

pub returns-then-out-at-2-clause-out_after : goal.returns-then-out-at-2-clause-out_after
returns-then-out-at-2-clause-out_after c =
    sym (with-no-room c.args.out.now c.args.at c.args.text.now (omega (arith, c.if-out-at.false, c.if-out-at-2.true)))

pub returns-clause-value : goal.returns-clause-value
returns-clause-value c =
    sym (after-room c.args.out.now c.args.at c.args.text.now (omega (arith, c.if-out-at.false, c.if-out-at-2.false)))

pub returns-clause-out_after : goal.returns-clause-out_after
returns-clause-out_after c =
    let room = with-room c.args.out.now c.args.at c.args.text.now (omega (arith, c.if-out-at.false, c.if-out-at-2.false)) in
    c.store.ensures ∙ sym room
