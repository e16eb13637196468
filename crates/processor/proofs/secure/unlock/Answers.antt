-- `secure::unlock` meets its contract: four locks, one after the other. Assumes nothing.
use Rattle.std.proofs.Common.{◌≡◌, sym, ap, ◌∙◌, arith}
use Rattle.processor.specs.Record.{altered, vp_of}
use Rattle.processor.proofs.RecordStores.{cleared_below, cleared-more, cleared-all}
use Rattle.processor.proofs.RecordWords.{contexts-length, put_same}
use Rattle.processor.proofs.secure.unlock.Goals as goal

pub loop-number-init : goal.loop-number-init
loop-number-init c = sym (put_same _ _ _)

pub loop-number-preserved : goal.loop-number-preserved
loop-number-preserved c = cleared-more _ _ _ _ (contexts-length _) c.loop-number.invariant c.clear_lock.ensures

pub returns : goal.returns
returns c =
    let a = c.args in
    let p = vp_of a.vp.now in
    let all : c.loop-number.number ≡ 4 = omega arith in
    c.loop-number.invariant ∙ ap (λ n. altered a.shape p a.level.0 (cleared_below n)) all ∙ cleared-all a.shape p a.level.0
