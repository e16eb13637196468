-- What is told with reasons of nothing, of two pieces one after the other, and after a refused first line. Assumes nothing.
use Rattle.std.specs.Prelude.{◌≡◌, List, ℕ, [], ◌∷◌, ◌++◌, refl}
use Rattle.reasoned.proofs.WholeReasons.{cut-in-two}
use Rattle.reasoned.specs.ReasonedSession.{line_text, told, told_lines}
use Rattle.script.specs.Records.{lines_in}
use Rattle.session.specs.Session.{Progress, consumed, ended, stopped}

pub reasons-nothing : (p : Progress) → told p [] ≡ []
unfolding told told_lines lines_in
reasons-nothing p = refl

pub reasons-joins : (p : Progress) (one two : List ℕ) → told p (one ++ two) ≡ told p one ++ told (consumed p one).progress two
reasons-joins p one two = (cut-in-two p one two).text

silent-lines : (ls : List (List ℕ)) → told_lines stopped ls ≡ []
unfolding told_lines line_text ended
silent-lines [] = refl
silent-lines (line ∷ ls) = silent-lines ls

pub reasons-silent : (chunk : List ℕ) → told stopped chunk ≡ []
unfolding told
reasons-silent chunk = silent-lines (lines_in chunk).complete
