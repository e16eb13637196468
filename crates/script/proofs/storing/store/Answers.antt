-- `script::storing::store` meets its contract: one element more a turn. Assumes nothing.
use Rattle.std.proofs.Common.{◌+◌, ◌∙◌, List, refl, ap, arith}
use Rattle.std.proofs.lemmas.List.Edits.{sets}
use lib.ListN.{set}
use lib.Seq.{take_all}
use Rattle.script.proofs.StoredTexts.{one-more}
use Rattle.script.proofs.storing.store.Goals as goal

pub loop-i-init : goal.loop-i-init
loop-i-init g c = (omega arith, refl)

pub loop-i-preserved : goal.loop-i-preserved
loop-i-preserved g c =
    let a = c.args in
    let at = c.loop-i in
    let x = c.index-from-i.result in (
      omega arith,
      ap (λ (l : List g.row.T.Denot). set l (a.at + at.i) x) at.invariant.1 ∙ one-more a.to.now a.at a.from.now at.i (omega arith) c.index-from-i.is,
    )

pub returns : goal.returns
returns g c =
    let at = c.loop-i in
    at.invariant.1 ∙ ap (sets c.args.to.now c.args.at) (take_all at.i c.args.from.now (omega arith))
