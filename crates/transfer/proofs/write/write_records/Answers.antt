-- `write::write_records` meets its contract: nothing of a state that is not well formed; else the text, by way of another buffer where
-- this one may be too short. Assumes nothing.
use mathlib.Core.Bool.{true}
use mathlib.Core.Path.{◌≡◌, sym, ◌∙◌}
use native.Mathlib.Omega.{arith}
use Rattle.model.specs.State.{State}
use Rattle.model.specs.WellFormed.{well_formed}
use Rattle.records.proofs.Lengths.{short-text}
use Rattle.state.specs.Lent.{lent}
use Rattle.transfer.proofs.Sending.{sent-nothing, sent-whole}
use Rattle.transfer.proofs.write.write_records.Goals as goal

pub returns-then-not-well_formed : goal.returns-then-not-well_formed
returns-then-not-well_formed c =
    let S : State = lent c.args.setup c.args.parts.now.levels c.args.parts.now.masks c.args.parts.now.vps c.args.words.now in
    sent-nothing (S) c.args.out.now (sym c.well_formed-2.ensures ∙ c.if-not-well_formed.true)

pub write_all-requires : goal.write_all-requires
write_all-requires c =
    let S : State = lent c.args.setup c.args.parts.now.levels c.args.parts.now.masks c.args.parts.now.vps c.args.words.now in
    let formed : well_formed (S) ≡ true = sym c.well_formed-2.ensures ∙ c.if-not-well_formed.false in
    record { words_value = formed; longest_text_in_bounds = c.if-out-ge-LONGEST_TEXT.true }

pub returns-then-out-ge-LONGEST_TEXT : goal.returns-then-out-ge-LONGEST_TEXT
returns-then-out-ge-LONGEST_TEXT c =
    let S : State = lent c.args.setup c.args.parts.now.levels c.args.parts.now.masks c.args.parts.now.vps c.args.words.now in
    let formed : well_formed (S) ≡ true = sym c.well_formed-2.ensures ∙ c.if-not-well_formed.false in
    let w = c.write_all.ensures in
    sent-whole (S) c.args.out.now (formed) (omega (arith, short-text (S) (formed), c.if-out-ge-LONGEST_TEXT.true)) w.value w.out_after

pub write_within-requires : goal.write_within-requires
write_within-requires c =
    let S : State = lent c.args.setup c.args.parts.now.levels c.args.parts.now.masks c.args.parts.now.vps c.args.words.now in
    let formed : well_formed (S) ≡ true = sym c.well_formed-2.ensures ∙ c.if-not-well_formed.false in
    formed
