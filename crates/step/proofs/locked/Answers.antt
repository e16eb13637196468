-- `locked` meets its contract: the four places one after the other. Assumes nothing.
use Rattle.std.proofs.Common.{◌≡◌, ◌+◌, refl, sym, ap, ◌∙◌, ℕ, List, [], Bool, true, false, cond, ◌&&◌, arith, rules, tests}
use Rattle.std.proofs.lemmas.Iterator.{YieldsList-from_range}
use Rattle.std.proofs.lemmas.Iterator.Search.{any_from_yields_List}
use lib.Dec.{ltb}
use lib.ListN.{get_or}
use Rattle.word.specs.Field.{bit}
use Rattle.model.proofs.BoundedLaws.{any-range}
use Rattle.model.specs.declared.machine.Setup.{Setup}
use Rattle.model.specs.Bounded.{any}
use Rattle.model.specs.Events.{locked}
use Rattle.model.specs.State.{processors, shape, vp, is_processor, no_vp, secure_of, lock_bit}
use Rattle.processor.specs.Record.{vp_of}
use Rattle.state.specs.Lent.{lent, machine_of}
use Rattle.step.proofs.locked.Goals as goal

-- A level holds a lock on level l at a place, if there is a processor.
abbrev held : Setup → List (List ℕ) → ℕ → ℕ → Bool
held z vps l v = any 4 (λ t. bit (secure_of z.shape (cond (ltb v z.processors) (vp_of (get_or vps v [])) no_vp) t l) lock_bit)

and-true : (a : Bool) → (a && true) ≡ a
and-true true = refl
and-true false = refl

places : (z : Setup) (levels masks words : List ℕ) (vps : List (List ℕ)) (l : ℕ) → locked (lent z levels masks vps words) l ≡ any 4 (held z vps l)
unfolding locked any vp is_processor processors shape machine_of
places z levels masks words vps l = simp and-true

pub returns : goal.returns
returns c levels masks words =
    let a = c.args in
    let test : ℕ → Bool = held a.setup a.vps.now a.level.0 in
    let some : c.any.result ≡ any 4 test =
    any_from_yields_List test _ _ c.any.result c.any.ensures.ran (YieldsList-from_range 0 4 4 (cc) refl) (λ x b q k. search (rules, tests))
    ∙ any-range 0 4 test test (λ i h. ap test (let e : 0 + i ≡ i = omega arith in e)) in
    places a.setup levels masks words a.vps.now a.level.0 ∙ sym some
