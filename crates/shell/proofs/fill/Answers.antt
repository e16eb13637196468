-- What was read stands behind what was read before.
use Rattle.std.proofs.Common.{rules, ◌≡◌, ◌∙◌, ℕ, ◌+◌, ◌-◌, ◌≤◌, List, ◌++◌, length, take, sym, subst, ap, arith, length-take}
use Rattle.std.proofs.KnownBytes.{Consumes-trans}
use Rattle.std.proofs.Math.Seq.{take-append-add}
use Rattle.std.proofs.lemmas.List.{take-append-le}
use Rattle.std.specs.Io.KnownBytes.{Consumes}
use borrow.Rule.Slice.PartMut.{post_of, put_mid}
use Rattle.shell.proofs.fill.Goals as goal

part-read : (xs ys : List ℕ) (at size n : ℕ) → at ≤ length xs → n ≤ length ys → take (at + n) (put_mid at size xs ys) ≡ take at xs ++ take n ys
part-read xs ys at size n inside fits =
    let front : length (take at xs) ≡ at = omega (arith, length-take at xs) in
    ap (λ (m : ℕ). take (m + n) (put_mid at size xs ys)) (sym front)
    ∙ take-append-add (take at xs) (ys ++ post_of at size xs) n
    ∙ ap (λ (l : List ℕ). take at xs ++ l) (take-append-le n ys (post_of at size xs) fits)

pub loop-done-preserved : goal.loop-done-preserved
loop-done-preserved g c =
    let at = c.loop-done in
    let r = c.in_ok-n.ensures in
    let left = g.R.Read.remaining in (
      search rules,
      search rules,
      subst (λ (l : List ℕ). Consumes (left c.args.input.now) (left c.read.new.input) l)
          (sym (part-read at.chunk c.read.new.chunk at.done (length at.chunk - at.done) c.in_ok-n.n at.invariant.0 r.within.0))
          (Consumes-trans _ _ _ (take at.done at.chunk) (take c.in_ok-n.n c.read.new.chunk) at.invariant.2 r.taken.0),
    )
