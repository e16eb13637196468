-- What is left to write of a script that is fed to a session piece by piece. Assumes nothing.
use mathlib.Core.List.{List, [], ◌++◌}
use mathlib.Core.Path.{◌≡◌, sym, ap, ◌∙◌}
use Prim.Native.Nat.{ℕ, ◌-◌}
use borrow.Rule.Slice.PartMut.{mid_of}
use lib.ListN.{drop, length}
use Rattle.std.proofs.lemmas.List.{nil_from_length, take-append-drop}
use Rattle.session.proofs.Callers.{part-whole, reached-start}
use Rattle.session.proofs.WholeListing.{consumed-fed, finished-after, reached-finished}
use Rattle.session.specs.Session.{Progress, consumed, fed, finished, last_text}

-- A piece is fed: its records, and then what is left to write after it.
pub listed-fed : (p : Progress) (rest : List ℕ) (room : ℕ)
    → let f = fed p rest room in finished (consumed p rest) ≡ f.text ++ finished (consumed f.progress (mid_of f.used (length rest - f.used) rest))
listed-fed p rest room =
    let f = fed p rest room in
    rw (part-whole rest f.used)
    (ap (λ (l : List ℕ). finished (consumed p l)) (sym (take-append-drop f.used rest))
    ∙ ap finished (consumed-fed p rest room (drop f.used rest))
    ∙ finished-after f.text (consumed f.progress (drop f.used rest)))

-- All was fed.
pub listed-done : (p : Progress) (rest : List ℕ) → length rest ≡ 0 → finished (consumed p rest) ≡ last_text p
listed-done p rest e = ap (λ (l : List ℕ). finished (consumed p l)) (nil_from_length rest e) ∙ sym (reached-finished [] (reached-start p))
