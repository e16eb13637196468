-- `first::field_count` meets its contract: a field more than there are tabs. Assumes nothing.
use Rattle.std.proofs.Common.{ap, arith, sym, ◌∙◌, ◌+◌, ℕ}
use Rattle.std.proofs.lemmas.List.Sums.{length-filter}
use mathlib.Core.List.{◌∷◌}
use lib.Dec.{eqb}
use Rattle.script.specs.LineForms.{tab}
use Rattle.script.specs.Search.{times}
use Rattle.script.proofs.NumberReading.{counted-after}
use Rattle.reader.proofs.first.field_count.Goals as goal

pub returns : goal.returns
unfolding times
returns c =
    let line = c.args.line.now in
    let tabs = c.occurrences.ensures.count ∙ sym (length-filter (λ byte. eqb byte tab) line) in
    ap (λ (n : ℕ). 1 + n) tabs ∙ counted-after (tab ∷ line) 0 (omega arith)
