-- What `consume` keeps from turn to turn of its loop. Assumes nothing.
use mathlib.Core.List.{List, [], ◌∷◌}
use mathlib.Core.Path.{◌≡◌, refl, sym, ap, ◌∙◌}
use Prim.Native.Nat.{ℕ, ◌-◌, ◌≤◌, ◌<◌}
use borrow.Rule.Slice.PartMut.{mid_of}
use native.Mathlib.Omega.{arith}
use lib.ListN.{drop, length, length-drop}
use Rattle.std.proofs.lemmas.List.{take-append-drop}
use Rattle.script.specs.ListingLine.{longest_record}
use Rattle.session.proofs.Callers.{part-whole}
use Rattle.session.proofs.WholeListing.{consumed-fed, some-used}
use Rattle.session.specs.Session.{Ended, Progress, consumed, fed}

-- What is left of a chunk after a piece of it was fed: the session comes as far from there, and it is shorter.
module _ (p : Progress) (rest : List ℕ) (room : ℕ) where
  abbrev left : ℕ → List ℕ
  left used = mid_of used (length rest - used) rest

  pub used-on : (consumed p rest).progress ≡ (consumed (fed p rest room).progress (left (fed p rest room).used)).progress
  used-on =
      let used = (fed p rest room).used in
      rw (part-whole rest used)
      (ap (λ (l : List ℕ). (consumed p l).progress) (sym (take-append-drop used rest))
      ∙ ap (λ (e : Ended). e.progress) (consumed-fed p rest room (drop used rest)))

  pub less-left : {used : ℕ} → used ≡ (fed p rest room).used → longest_record ≤ room → 0 < length rest → length (left used) < length rest
  less-left {used} e roomy more =
      let some = some-used p rest room roomy (omega (arith, more)) in
      let size = ap length (part-whole rest used) ∙ length-drop used rest in
      omega (arith, some, e, size)

-- Nothing is left.
pub none-left : (rest : List ℕ) → length rest ≡ 0 → rest ≡ []
none-left [] e = refl
none-left (byte ∷ rest) e = absurd (omega (arith, e))
