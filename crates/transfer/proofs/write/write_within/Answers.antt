-- `write::write_within` meets its contract: the text is written where it has room, and copied from there. Assumes nothing.
use mathlib.Core.Path.{◌≡◌, sym, ap, ◌∙◌}
use Prim.Native.Nat.{ℕ, ◌≤◌}
use native.Mathlib.Omega.{arith}
use lib.ListN.{length, length-replicate, replicate, take}
use lib.Seq.{length-sets, sets}
use Rattle.model.specs.State.{State}
use Rattle.records.specs.RecordTexts.{records_text}
use Rattle.records.proofs.Lengths.{short-text}
use Rattle.state.specs.Lent.{lent}
use Rattle.transfer.proofs.Sending.{sent-short, sent-whole, taken_out}
use Rattle.transfer.proofs.write.write_within.Goals as goal

pub returns-then-out-size : goal.returns-then-out-size
returns-then-out-size c =
    let S : State = lent c.args.setup c.args.parts.now.levels c.args.parts.now.masks c.args.parts.now.vps c.args.words.now in
    sent-short (S) c.args.out.now c.requires (omega (arith, c.if-out-size.true, c.write_all-size.ensures.value))

pub slice_bounds-text-end : goal.slice_bounds-text-end
slice_bounds-text-end c =
    let S : State = lent c.args.setup c.args.parts.now.levels c.args.parts.now.masks c.args.parts.now.vps c.args.words.now in
    let inside : c.write_all-size.result ≤ length c.write_all-size.new.out = omega (
      arith,
      c.write_all-size.ensures.value,
      short-text (S) c.requires,
      ap length c.write_all-size.ensures.out_after,
      length-sets (replicate 65536 0) 0 (records_text (S)),
      length-replicate {A = ℕ} 65536 0,
    ) in
    inside

pub slice_bounds-put-end : goal.slice_bounds-put-end
slice_bounds-put-end c =
    let S : State = lent c.args.setup c.args.parts.now.levels c.args.parts.now.masks c.args.parts.now.vps c.args.words.now in
    let inside : c.write_all-size.result ≤ length c.write_all-size.new.out = omega (
      arith,
      c.write_all-size.ensures.value,
      short-text (S) c.requires,
      ap length c.write_all-size.ensures.out_after,
      length-sets (replicate 65536 0) 0 (records_text (S)),
      length-replicate {A = ℕ} 65536 0,
    ) in
    let text : take c.write_all-size.result c.write_all-size.new.out ≡ records_text (S) = let e = c.write_all-size.ensures.out_after in
    let room : c.write_all-size.result ≤ length (sets (replicate 65536 0) 0 (records_text (S))) = omega (arith, inside, ap length e) in
    ap (take c.write_all-size.result) e ∙ taken_out (replicate 65536 0) (records_text (S)) c.write_all-size.result c.write_all-size.ensures.value room in
    c.write_all-size.ensures.value ∙ sym (ap length (text))

pub put-requires : goal.put-requires
put-requires c =
    let S : State = lent c.args.setup c.args.parts.now.levels c.args.parts.now.masks c.args.parts.now.vps c.args.words.now in
    let inside : c.write_all-size.result ≤ length c.write_all-size.new.out = omega (
      arith,
      c.write_all-size.ensures.value,
      short-text (S) c.requires,
      ap length c.write_all-size.ensures.out_after,
      length-sets (replicate 65536 0) 0 (records_text (S)),
      length-replicate {A = ℕ} 65536 0,
    ) in
    let text : take c.write_all-size.result c.write_all-size.new.out ≡ records_text (S) = let e = c.write_all-size.ensures.out_after in
    let room : c.write_all-size.result ≤ length (sets (replicate 65536 0) 0 (records_text (S))) = omega (arith, inside, ap length e) in
    ap (take c.write_all-size.result) e ∙ taken_out (replicate 65536 0) (records_text (S)) c.write_all-size.result c.write_all-size.ensures.value room in
    omega (arith, ap length (text), c.write_all-size.ensures.value, c.if-out-size.false)

pub returns : goal.returns
returns c =
    let S : State = lent c.args.setup c.args.parts.now.levels c.args.parts.now.masks c.args.parts.now.vps c.args.words.now in
    let inside : c.write_all-size.result ≤ length c.write_all-size.new.out = omega (
      arith,
      c.write_all-size.ensures.value,
      short-text (S) c.requires,
      ap length c.write_all-size.ensures.out_after,
      length-sets (replicate 65536 0) 0 (records_text (S)),
      length-replicate {A = ℕ} 65536 0,
    ) in
    let text : take c.write_all-size.result c.write_all-size.new.out ≡ records_text (S) = let e = c.write_all-size.ensures.out_after in
    let room : c.write_all-size.result ≤ length (sets (replicate 65536 0) 0 (records_text (S))) = omega (arith, inside, ap length e) in
    ap (take c.write_all-size.result) e ∙ taken_out (replicate 65536 0) (records_text (S)) c.write_all-size.result c.write_all-size.ensures.value room in
    let p = c.put.ensures in
    sent-whole (S) c.args.out.now c.requires (omega (arith, c.write_all-size.ensures.value, c.if-out-size.false))
    (omega (arith, p.value, ap length (text))) (p.out_after ∙ ap (sets c.args.out.now 0) (text))
