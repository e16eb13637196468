-- `xalevinda::written::line_feeds` meets its contract: as many bytes are line feeds as lines end. Assumes nothing.
use lib.Dec.{eqb}
use mathlib.Core.Path.{sym, ◌∙◌}
use Rattle.std.proofs.lemmas.List.Sums.{length-filter}
use Rattle.script.specs.ListingLine.{line_feed}
use Rattle.script.specs.Search.{times}
use Rattle.xalevinda.proofs.ListingRoom.{feeds-counted}
use Rattle.xalevinda.proofs.written.line_feeds.Goals as goal

pub returns : goal.returns
unfolding times
returns c =
    let input = c.args.input.now in
    c.occurrences.ensures.count ∙ sym (length-filter (λ byte. eqb byte line_feed) input) ∙ feeds-counted input
