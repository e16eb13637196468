-- `explain_in` meets its contract: the state has the record of its processor, or the empty one. Assumes nothing.
use Prim.Native.Nat.{◌<◌}
use native.Mathlib.Omega.{arith}
use Rattle.explanation.proofs.LentRecord.{index-low, acts, hosted, there, missing}
use Rattle.explanation.proofs.explain_in.Goals as goal

pub offset_bounds-parts-i : goal.offset_bounds-parts-i
offset_bounds-parts-i c = let low : c.args.vp.0 < 4 = index-low _ _ c.if-vp-setup.true in omega arith

pub bounds-parts-i : goal.bounds-parts-i
bounds-parts-i c = index-low _ _ c.if-vp-setup.true

pub returns-then-vp-setup : goal.returns-then-vp-setup
returns-then-vp-setup c words =
    let a = c.args in
    let holds = there a.setup a.parts.now.levels a.parts.now.masks a.parts.now.vps words a.vp.0 c.if-vp-setup.true in
    c.explain.ensures _ _ (acts a.setup a.parts.now.levels a.parts.now.masks a.parts.now.vps words a.vp.0 _ holds) holds (hosted a.setup a.parts.now.levels a.parts.now.masks a.parts.now.vps words _)

pub returns : goal.returns
returns c words =
    let a = c.args in
    let holds = missing a.setup a.parts.now.levels a.parts.now.masks a.parts.now.vps words a.vp.0 c.if-vp-setup.false in
    c.explain-2.ensures _ _ (acts a.setup a.parts.now.levels a.parts.now.masks a.parts.now.vps words a.vp.0 _ holds) holds (hosted a.setup a.parts.now.levels a.parts.now.masks a.parts.now.vps words _)
