-- `line::past_word` meets its contract. Assumes nothing.
use Rattle.reader.proofs.Beginnings.{word-begins}
use Rattle.reader.proofs.line.past_word.Goals as goal

pub returns : goal.returns
returns c =
    let a = c.args in
    rw c.then_some.ensures (word-begins a.line.now a.word.now c.starts_with.result c.starts_with.ensures.value c.starts_with.ensures.bound)
