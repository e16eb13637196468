-- What is left to write of a script that is fed line by line and written with its reasons. Assumes nothing.
use mathlib.Core.List.{List, [], ◌++◌, append_assoc}
use mathlib.Core.Path.{◌≡◌, sym, ap, ◌∙◌}
use Prim.Native.Nat.{ℕ, ◌-◌, ◌<◌}
use borrow.Rule.Slice.PartMut.{mid_of}
use native.Mathlib.Omega.{arith}
use lib.ListN.{drop, length, length-drop, take}
use Rattle.std.proofs.lemmas.List.{nil_from_length, take-append-drop}
use Rattle.reasoned.proofs.WholeReasons.{cut-in-two}
use Rattle.reasoned.specs.ReasonedSession.{last_told, line_used, told, told_lines}
use Rattle.script.specs.Records.{lines_in}
use Rattle.session.proofs.Callers.{part-whole, reached-session, reached-start}
use Rattle.session.specs.Session.{Progress, consumed, progress_of}
use Rattle.session.specs.declared.Session.{Session}

-- What a session writes of what is left of a script, and at its end.
abbrev pub reasons_of : Progress → List ℕ → List ℕ
reasons_of p rest = told p rest ++ last_told (consumed p rest).progress

-- A piece is fed: its text, and then what is left to write after it.
pub reasons-fed : (p : Progress) (rest : List ℕ) (n : ℕ)
    → reasons_of p rest ≡ told p (take n rest) ++ reasons_of (consumed p (take n rest)).progress (mid_of n (length rest - n) rest)
reasons-fed p rest n =
    let one = take n rest in
    let more = drop n rest in
    let q = (consumed p one).progress in
    let two = cut-in-two p one more in
    rw (part-whole rest n)
    (ap (λ (l : List ℕ). reasons_of p l) (sym (take-append-drop n rest))
    ∙ ap (λ (l : List ℕ). l ++ last_told (consumed p (one ++ more)).progress) two.text
    ∙ ap (λ (r : Progress). (told p one ++ told q more) ++ last_told r) two.progress
    ∙ append_assoc (told p one) (told q more) (last_told (consumed q more).progress))

-- Every line uses something.
pub reasons-less : (rest : List ℕ) (used : ℕ) → used ≡ line_used rest → 0 < length rest → length (mid_of used (length rest - used) rest) < length rest
reasons-less rest used e some =
    let size : length (mid_of used (length rest - used) rest) ≡ length rest - used = ap length (part-whole rest used) ∙ length-drop used rest in
    omega (arith, size, e, some)

-- All was fed.
nothing-told : (s : Session) → reasons_of (progress_of s) [] ≡ last_told (progress_of s)
unfolding told told_lines lines_in
nothing-told s = ap last_told (sym (reached-session s (reached-start (progress_of s))))

pub reasons-done : (s : Session) (rest : List ℕ) → length rest ≡ 0 → reasons_of (progress_of s) rest ≡ last_told (progress_of s)
reasons-done s rest e = ap (λ (l : List ℕ). reasons_of (progress_of s) l) (nil_from_length rest e) ∙ nothing-told s
