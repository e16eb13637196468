-- `line::past_front` meets its contract: the word with its tab, and then the indices. Assumes nothing.
use mathlib.Core.List.{[], ◌∷◌, ◌++◌}
use Rattle.records.specs.RecordTexts.{closed, head_of}
use Rattle.records.proofs.ClosedNumbers.{front-parts}
use Rattle.script.specs.LineForms.{tab}
use Rattle.reader.proofs.Beginnings.{both, none_first, room-digits}
use Rattle.reader.proofs.line.past_front.Goals as goal

pub returns-in_err-next : goal.returns-in_err-next
returns-in_err-next c =
    let a = c.args in
    let said = rw (c.word_of.ensures, c.in_err-next.was) at c.past_word.ensures in
    rw c.from_residual.ensures
    (rw (front-parts a.place) at (none_first a.line.now 0 ((head_of a.place).word ++ tab ∷ []) (closed (head_of a.place).indices) said))

pub past_indices-requires-clause-two_digits : goal.past_indices-requires-clause-two_digits
past_indices-requires-clause-two_digits c = rw (c.as_slice.ensures, c.indices_of.ensures) (room-digits c.args.place c.requires)

pub returns : goal.returns
returns c =
    let a = c.args in
    let said = rw (c.word_of.ensures, c.in_ok-next.was) at c.past_word.ensures in
    rw (front-parts a.place) at
    (both a.line.now 0 ((head_of a.place).word ++ tab ∷ []) (closed (head_of a.place).indices) c.past_indices.result said
    (rw (c.as_slice.ensures, c.indices_of.ensures) at c.past_indices.ensures))
