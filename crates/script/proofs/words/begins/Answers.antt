-- `script::words::begins` meets its contract: the word is taken off the line, and a tab or the end has to follow it. Assumes nothing.
use Rattle.script.proofs.Naming.{line-closed, not-stripped, word-closed}
use Rattle.script.proofs.words.begins.Goals as goal

pub returns-in-Some-empty : goal.returns-in-Some-empty
returns-in-Some-empty c = let h = c.in-Some-empty.ensures.cases in line-closed _ _ _ h.0 h.1 c.in-Some-empty.len_below

pub returns-in-Some-len1-up : goal.returns-in-Some-len1-up
returns-in-Some-len1-up c = let h = c.in-Some-len1-up.ensures.cases in word-closed _ _ _ h.0 h.1 c.in-Some-len1-up.len_at_least

pub returns-in-None : goal.returns-in-None
returns-in-None c = not-stripped _ _ c.in-None.ensures.cases
