-- What the code's parts give: a text that is written piece by piece. Assumes nothing.
use Rattle.std.specs.Prelude.{List, ◌≡◌, ℕ, ◌+◌, ◌≤◌, length}
use Rattle.std.proofs.lemmas.List.Edits.{sets}
use Rattle.xalevinda.specs.Exports.{at_most_word}

-- A text was written into a buffer from a place on, if it has room there, and its bytes were counted with those before it.
pub record Stored (text : List ℕ) (at size : ℕ) (before after : List ℕ) : Type 0 where
  pub counted : size ≡ at_most_word (at + length text)
  pub same_length : length after ≡ length before
  pub stored : at + length text ≤ length before → after ≡ sets before at text
