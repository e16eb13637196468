-- All that counts of an input was read, and what it asks is what was written.
use Rattle.std.proofs.Common.{rules, ◌≡◌, ◌∙◌, ◌<◌, ◌≤◌, ℕ, Bool, true, false, List, [], ◌++◌, ltb, length, take, sym, subst, ap, refl, append-nil, arith, length-append, None, Some, IfSome}
use Rattle.std.proofs.lemmas.Bool.{ltb-false, ltb-true}
use Rattle.std.proofs.lemmas.Result.{on_ok_weaker}
use Rattle.std.specs.Prelude.{Option}
use Rattle.std.specs.Io.KnownBytes.{Appends, Consumes, IsAtEnd}
use Rattle.inquiry.proofs.LongInputs.{long-refused}
use Rattle.inquiry.specs.Inquiry.{explained}
use Rattle.explain.proofs.explain.Goals as goal

-- What counts of an input is its first 66,560 bytes.
counts : (bytes more : List ℕ) → (length bytes < 66560 → more ≡ []) → explained bytes ≡ explained (bytes ++ more)
counts bytes more end = go (ltb (length bytes) 66560) refl
  where
    go : (b : Bool) → ltb (length bytes) 66560 ≡ b → explained bytes ≡ explained (bytes ++ more)
    go true e = ap explained (sym (ap (λ (l : List ℕ). bytes ++ l) (end (ltb-true (length bytes) 66560 e)) ∙ append-nil bytes))
    go false e =
        let long : 66560 ≤ length bytes = ltb-false (length bytes) 66560 e in
        long-refused bytes (omega arith) ∙ sym (long-refused (bytes ++ more) (omega (arith, length-append bytes more)))

answered : (had has before then : Option (List ℕ)) (bytes : List ℕ) → Consumes had has bytes → (length bytes < 66560 → IsAtEnd has) → Appends before then (explained bytes)
    → IfSome had (λ asked. Appends before then (explained asked))
answered None has before then bytes takes end writes = tt
answered (Some xs) None before then bytes takes end writes = absurd takes
answered (Some xs) (Some ys) before then bytes takes end writes =
    subst (λ (l : List ℕ). Appends before then l) (counts bytes ys end ∙ ap explained (sym takes)) writes

pub returns-clause-explained : goal.returns-clause-explained
returns-clause-explained g c =
    let bytes : List ℕ = take c.in_ok-n.n c.fill.new.chunk in
    let r = c.in_ok-n.ensures in
    let text : take c.explain-size.result c.explain-size.new.out ≡ explained bytes = search rules in
    let contents = g.W.Write.contents in
    on_ok_weaker c.write.result
    (λ writes.
    answered _ _ _ _ bytes r.filled.0 (λ few. r.filled.1 (omega arith))
    (subst (λ (l : List ℕ). Appends (contents c.args.output.now) (contents c.write.new.output) l) text writes))
    c.write.ensures.written
