-- `script::search::occurrences` meets its contract: a byte more is counted where it is the one that is sought. Assumes nothing.
use Rattle.std.proofs.Common.{rules, ◌∙◌, ◌+◌, ℕ, eqb, eq-eqb, ne_eqb, refl, count_by, sym, ap, arith}
use Rattle.std.proofs.lemmas.List.Sums.{count_by_more_no, count_by_more_yes}
use lib.Seq.{take_all}
use Rattle.script.specs.Search.{times}
use Rattle.script.proofs.search.occurrences.Goals as goal
use Rattle.script.proofs.search.occurrences.Goals.{then-found-byte, else-found-byte}

pub loop-found-init : goal.loop-found-init
unfolding times
loop-found-init c = (refl, omega arith)

pub overflow_add-count : goal.overflow_add-count
overflow_add-count c = search rules

pub loop-found-preserved : goal.loop-found-preserved
unfolding times
loop-found-preserved c =
    let at = c.loop-found in
    let bytes = c.args.bytes.now in
    let found = λ (byte : ℕ). eqb byte c.args.byte in
    elim c.if-found-byte.branch [
      | then-found-byte w ↦ rw w.count-is (
        ap (λ n. n + 1) at.invariant.0 ∙ sym (count_by_more_yes found bytes at.found-index 0 c.loop-found-test.true (eq-eqb _ _ w.if-found-byte.true)),
        omega (arith, at.invariant.1),
      )
      | else-found-byte w ↦ rw w.count-is (
        at.invariant.0 ∙ sym (count_by_more_no found bytes at.found-index 0 c.loop-found-test.true (ne_eqb _ _ w.if-found-byte.false)),
        omega (arith, at.invariant.1),
      )
    ]

pub returns-clause-count : goal.returns-clause-count
unfolding times
returns-clause-count c =
    let at = c.loop-found in
    at.invariant.0 ∙ ap (count_by (λ (byte : ℕ). eqb byte c.args.byte)) (take_all at.found-index c.args.bytes.now c.loop-found-test.false)
