-- `write::write_places` meets its contract. The loop keeps what is left to write; the rank of the place that is due rises.
-- Assumes nothing.
use mathlib.Core.Path.{◌≡◌, ap}
use native.Mathlib.Omega.{arith}
use lib.ListN.{length}
use Rattle.model.specs.State.{State}
use Rattle.records.specs.Values.{value_at}
use Rattle.records.proofs.Sequence.{Small}
use Rattle.records.proofs.PlainStates.{small, words-length}
use Rattle.records.proofs.Walks.{due_rank}
use Rattle.script.proofs.Cells.{written-length}
use Rattle.state.specs.Lent.{lent, machine_of}
use Rattle.transfer.specs.Sent.{places_text}
use Rattle.transfer.proofs.Left.{Due, left-start, left_at, left-done}
use Rattle.transfer.proofs.write.write_places.Goals as goal

pub loop-due-init : goal.loop-due-init
unfolding machine_of
loop-due-init c =
    let S : State = lent c.args.setup c.args.parts.now.levels c.args.parts.now.masks c.args.parts.now.vps c.args.words.now in
    let few : Small c.args.setup = small (S) c.requires.words_value in
    rw c.first-due.ensures (left-start c.args.setup (value_at (S)) c.args.out.now c.args.start (few))

pub shape_of-out : goal.shape_of-out
shape_of-out c =
    written-length c.args.out.now c.args.start c.loop-due.invariant.done c.loop-due.invariant.wrote

pub returns : goal.returns
unfolding places_text machine_of
returns c =
    let S : State = lent c.args.setup c.args.parts.now.levels c.args.parts.now.masks c.args.parts.now.vps c.args.words.now in
    left-done c.args.setup (value_at (S)) c.args.out.now c.args.start c.loop-due.out c.loop-due.at (rw c.in_default.is at c.loop-due.invariant)

pub quantity-value-requires : goal.quantity-value-requires
unfolding machine_of
quantity-value-requires c =
    let S : State = lent c.args.setup c.args.parts.now.levels c.args.parts.now.masks c.args.parts.now.vps c.args.words.now in
    let count : length c.args.words.now ≡ c.args.setup.pages = words-length (S) c.requires.words_value in
    let due-of : Due c.args.setup (value_at (S)) c.args.out.now c.args.start c.loop-due.out c.loop-due.at c.in-Some.place = left_at c.args.setup (value_at (S)) c.args.out.now c.args.start c.loop-due.out c.loop-due.at c.in-Some.place (rw c.in-Some.is at c.loop-due.invariant) in
    ((due-of).holds, count)

pub write_record-at-requires : goal.write_record-at-requires
unfolding places_text machine_of
write_record-at-requires c =
    let S : State = lent c.args.setup c.args.parts.now.levels c.args.parts.now.masks c.args.parts.now.vps c.args.words.now in
    let due-of : Due c.args.setup (value_at (S)) c.args.out.now c.args.start c.loop-due.out c.loop-due.at c.in-Some.place = left_at c.args.setup (value_at (S)) c.args.out.now c.args.start c.loop-due.out c.loop-due.at c.in-Some.place (rw c.in-Some.is at c.loop-due.invariant) in
    rw c.quantity-value.ensures ((due-of).room c.requires.words_in_bounds)

pub loop-due-smaller : goal.loop-due-smaller
loop-due-smaller c =
    let S : State = lent c.args.setup c.args.parts.now.levels c.args.parts.now.masks c.args.parts.now.vps c.args.words.now in
    let due-of : Due c.args.setup (value_at (S)) c.args.out.now c.args.start c.loop-due.out c.loop-due.at c.in-Some.place = left_at c.args.setup (value_at (S)) c.args.out.now c.args.start c.loop-due.out c.loop-due.at c.in-Some.place (rw c.in-Some.is at c.loop-due.invariant) in
    let d = due-of in
    omega (arith, ap (due_rank c.args.setup) c.next-due.ensures, ap (due_rank c.args.setup) c.in-Some.is, d.below, d.rises)

pub loop-due-preserved : goal.loop-due-preserved
loop-due-preserved c =
    let S : State = lent c.args.setup c.args.parts.now.levels c.args.parts.now.masks c.args.parts.now.vps c.args.words.now in
    let due-of : Due c.args.setup (value_at (S)) c.args.out.now c.args.start c.loop-due.out c.loop-due.at c.in-Some.place = left_at c.args.setup (value_at (S)) c.args.out.now c.args.start c.loop-due.out c.loop-due.at c.in-Some.place (rw c.in-Some.is at c.loop-due.invariant) in
    rw c.next-due.ensures ((due-of).goes c.write_record-at.result c.write_record-at.new.out (rw c.quantity-value.ensures at c.write_record-at.ensures))
