-- `ruled` meets its contract: without its processor or its mode an event is malformed, and else its function says what the rule gives.
-- Assumes nothing.
use mathlib.Core.Path.{◌≡◌, sym, ap, ◌∙◌}
use mathlib.Core.Bool.{true}
use Prim.Native.Nat.{◌<◌}
use native.Mathlib.Omega.{arith}
use borrow.Author.Tests.{lt-ltb, le-ltb}
use Rattle.model.specs.State.{processors, is_index}
use Rattle.promise.specs.Promise.{outcome_of}
use Rattle.state.specs.Lent.{machine_of}
use Rattle.step.proofs.LentParts.{index-low, runs, record-left}
use Rattle.step.proofs.MissingProcessor.{made, no-maker, no_mode, no-interrupted}
use Rattle.step.proofs.ruled.Goals as goal

pub returns-then-not-is_processor : goal.returns-then-not-is_processor
unfolding machine_of processors
returns-then-not-is_processor c =
    rw c.in-Made.is (no-maker _ c.requires _ _ _ (sym c.is_processor.ensures ∙ c.if-not-is_processor.true))

pub returns-then-mode-gt1 : goal.returns-then-mode-gt1
unfolding machine_of processors
returns-then-mode-gt1 c =
    let maker-there : is_index c.args.setup.processors c.in-Made.vp.0 ≡ true = sym c.is_processor.ensures ∙ c.if-not-is_processor.false in
    rw c.in-Made.is (no_mode _ _ _ _ (maker-there) (lt-ltb _ _ c.if-mode-gt1.true))

pub acted-requires : goal.acted-requires
acted-requires c =
    let maker-there : is_index c.args.setup.processors c.in-Made.vp.0 ≡ true = sym c.is_processor.ensures ∙ c.if-not-is_processor.false in
    (c.requires, maker-there)

pub returns-then-not-is_processor-2 : goal.returns-then-not-is_processor-2
unfolding machine_of processors
returns-then-not-is_processor-2 c =
    rw c.in-Int.is (no-interrupted _ c.requires _ _ _ (sym c.is_processor-in-Int.ensures ∙ c.if-not-is_processor-2.true))

pub returns-else-mode-gt1 : goal.returns-else-mode-gt1
unfolding machine_of processors
returns-else-mode-gt1 c =
    let maker-there : is_index c.args.setup.processors c.in-Made.vp.0 ≡ true = sym c.is_processor.ensures ∙ c.if-not-is_processor.false in
    rw c.in-Made.is
    (c.acted.ensures ∙ rw c.mode_of-mode.ensures (made _ _ _ _ (maker-there) (le-ltb _ _ c.if-mode-gt1.false)))

pub returns-else-not-is_processor-2 : goal.returns-else-not-is_processor-2
returns-else-not-is_processor-2 c =
    let on-there : is_index c.args.setup.processors c.in-Int.on.0 ≡ true = sym c.is_processor-in-Int.ensures ∙ c.if-not-is_processor-2.false in
    let there = on-there in
    rw c.in-Int.is
    (sym (c.int.ensures _ _ (runs c.args.setup c.args.parts.now.levels c.args.parts.now.masks c.args.parts.now.vps c.args.words.now _ there)
    ∙ ap (outcome_of _) (record-left c.args.setup c.args.parts.now.levels c.args.parts.now.masks c.args.parts.now.vps c.args.words.now _ there _ c.record_count.ensures)))

pub offset_bounds-parts-j : goal.offset_bounds-parts-j
offset_bounds-parts-j c =
    let on-there : is_index c.args.setup.processors c.in-Int.on.0 ≡ true = sym c.is_processor-in-Int.ensures ∙ c.if-not-is_processor-2.false in
    let on-low : c.in-Int.on.0 < 4 = index-low c.args.setup.processors _ (on-there) in
    record { fits = omega (arith, on-low) }

pub bounds-parts-j : goal.bounds-parts-j
bounds-parts-j c =
    let on-there : is_index c.args.setup.processors c.in-Int.on.0 ≡ true = sym c.is_processor-in-Int.ensures ∙ c.if-not-is_processor-2.false in
    let on-low : c.in-Int.on.0 < 4 = index-low c.args.setup.processors _ (on-there) in
    on-low
