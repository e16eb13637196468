-- `script::fields::count_after` meets its contract: a field more than there are tabs after the first byte. Assumes nothing.
use Rattle.std.proofs.Common.{ap, arith, sym, ◌∙◌, ◌+◌, ℕ}
use Rattle.std.proofs.lemmas.List.Sums.{length-filter}
use lib.Dec.{eqb}
use lib.ListN.{drop, length-drop}
use lib.Seq.{take_all}
use Rattle.script.specs.LineForms.{tab}
use Rattle.script.specs.Search.{times}
use Rattle.script.proofs.NumberReading.{counted-after}
use Rattle.script.proofs.fields.count_after.Goals as goal

pub returns : goal.returns
unfolding times
returns c =
    let line = c.args.line.now in
    let rest = drop (c.args.from + 1) line in
    let all = take_all _ rest (omega (arith, length-drop (c.args.from + 1) line)) in
    let tabs = c.occurrences.ensures.count ∙ ap (times tab) all ∙ sym (length-filter (λ byte. eqb byte tab) rest) in
    ap (λ (n : ℕ). 1 + n) tabs ∙ counted-after line c.args.from c.if-line-from.false
