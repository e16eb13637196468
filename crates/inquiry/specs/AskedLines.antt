-- What the parts of the code give: an access line by the sizes of a machine, and a text at the start of a buffer. Assumes nothing.
use Rattle.std.specs.Prelude.{cond, ◌&&◌, List, ◌≡◌, ℕ, ◌≤◌, leb, ltb, length, take, None, Option, Some}
use Rattle.std.proofs.lemmas.List.Edits.{sets}
use Rattle.model.specs.declared.machine.Setup.{Setup}
use Rattle.asked.specs.declared.Asked.{Asked}

-- An access that does not get answer 1: there are such a processor, such a mode and such a page.
abbrev pub ranged_by : Setup → Option Asked → Option Asked
ranged_by setup None = None
ranged_by setup (Some q) =
    cond (ltb q.vp.0 setup.processors && leb q.mode 1 && ltb q.page.0 setup.pages) (Some q) None

-- A text was written at the start of a buffer, and its length was returned.
pub record Wrote (text : List ℕ) (size : ℕ) (before after : List ℕ) : Type 0 where
  pub counted : size ≡ length text
  pub written : after ≡ sets before 0 text
  pub within : size ≤ length after
  pub taken : size ≡ length (take size after)
  pub front : take size after ≡ text
