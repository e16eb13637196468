-- `write::write_all` meets its contract: the first record, and the others after it. Assumes nothing.
use mathlib.Core.List.{◌++◌}
use mathlib.Core.Path.{◌≡◌, ap, ◌∙◌}
use Prim.Native.Nat.{◌+◌, ◌≤◌}
use native.Mathlib.Omega.{arith}
use lib.ListN.{length}
use lib.Seq.{sets}
use Rattle.model.specs.State.{State}
use Rattle.records.specs.RecordTexts.{records_text}
use Rattle.records.proofs.Lengths.{short-text}
use Rattle.script.proofs.Cells.{Written, written_next}
use Rattle.state.specs.Lent.{lent, machine_of}
use Rattle.transfer.specs.Sent.{first_record_text, places_text}
use Rattle.transfer.proofs.Left.{whole_is}
use Rattle.transfer.proofs.Stores.{first-room, second-room}
use Rattle.transfer.proofs.write.write_all.Goals as goal

pub write_first-end-requires : goal.write_first-end-requires
unfolding machine_of
write_first-end-requires c =
    let S : State = lent c.args.setup c.args.parts.now.levels c.args.parts.now.masks c.args.parts.now.vps c.args.words.now in
    let both : first_record_text c.args.setup ++ places_text (S) ≡ records_text (S) = whole_is (S) in
    let room : 0 + length (first_record_text c.args.setup ++ places_text (S)) ≤ length c.args.out.now = omega (arith, ap length (both), short-text (S) c.requires.words_value, c.requires.longest_text_in_bounds) in
    omega (arith, first-room c.args.out.now 0 (first_record_text c.args.setup) (places_text (S)) (room))

pub write_places-requires : goal.write_places-requires
unfolding machine_of
write_places-requires c =
    let S : State = lent c.args.setup c.args.parts.now.levels c.args.parts.now.masks c.args.parts.now.vps c.args.words.now in
    let both : first_record_text c.args.setup ++ places_text (S) ≡ records_text (S) = whole_is (S) in
    let room : 0 + length (first_record_text c.args.setup ++ places_text (S)) ≤ length c.args.out.now = omega (arith, ap length (both), short-text (S) c.requires.words_value, c.requires.longest_text_in_bounds) in
    let wrote : Written c.args.out.now 0 (first_record_text c.args.setup) c.write_first-end.result c.write_first-end.new.out = record { value = omega (arith, c.write_first-end.ensures.value); out_after = c.write_first-end.ensures.out_after } in
    record { words_value = c.requires.words_value; words_in_bounds = second-room c.args.out.now 0 (first_record_text c.args.setup) (places_text (S)) (room) (wrote) }

pub returns : goal.returns
unfolding machine_of
returns c =
    let S : State = lent c.args.setup c.args.parts.now.levels c.args.parts.now.masks c.args.parts.now.vps c.args.words.now in
    let both : first_record_text c.args.setup ++ places_text (S) ≡ records_text (S) = whole_is (S) in
    let wrote : Written c.args.out.now 0 (first_record_text c.args.setup) c.write_first-end.result c.write_first-end.new.out = record { value = omega (arith, c.write_first-end.ensures.value); out_after = c.write_first-end.ensures.out_after } in
    let all = written_next c.args.out.now 0 (first_record_text c.args.setup) (places_text (S)) (wrote) c.write_places.ensures in
    record { value = omega (arith, all.value, ap length (both)); out_after = all.out_after ∙ ap (sets c.args.out.now 0) (both) }
