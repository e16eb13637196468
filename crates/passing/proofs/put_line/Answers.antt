-- What is copied stands in front of the rest. Assumes nothing.
use Rattle.std.proofs.Common.{◌≡◌, ℕ, ◌+◌, length, ◌++◌, drop, sym, ap, ◌∙◌, arith}
use Rattle.std.proofs.lemmas.List.Edits.{sets-eq}
use Rattle.passing.proofs.put_line.Goals as goal

pub returns-clause-out_after : goal.returns-clause-out_after
returns-clause-out_after c =
    let line = c.args.line.now in
    let out = c.args.out.now in
    let from : 0 + length line ≡ length line = omega arith in
    sym
    (rw c.copy_from_slice.ensures.after
    (sets-eq line out 0 (omega (arith, c.requires)) ∙ ap (λ (n : ℕ). line ++ drop n out) from))
