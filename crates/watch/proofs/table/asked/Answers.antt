-- `table::asked` meets its contract: some row answers. The rows of the code are compared with `watch_table` where they are searched: antt
-- computes both. Assumes nothing.
use Rattle.std.proofs.Common.{◌∙◌, rules, tests}
use Rattle.std.proofs.lemmas.Iterator.{YieldsList-from_slice}
use Rattle.std.proofs.lemmas.Iterator.Search.{any_from_yields_List}
use Rattle.model.specs.Watching.{watch_table}
use Rattle.watch.proofs.TableRows.{answers, any-answers}
use Rattle.watch.proofs.table.asked.Goals as goal

pub returns : goal.returns
returns c =
    let a = c.args in
    any_from_yields_List (λ row. answers row a.word a.register a.write) _ _ c.any.result c.any.ensures.ran (YieldsList-from_slice watch_table cc) (λ x b q k. search (rules, tests))
    ∙ any-answers watch_table a.word a.register a.write
