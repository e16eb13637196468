-- A table of watched accesses is searched row by row. Assumes nothing.
use mathlib.Core.Path.{◌≡◌, refl}
use mathlib.Core.Bool.{Bool, false, beq, ◌&&◌}
use mathlib.Core.List.{List, [], ◌∷◌}
use Prim.Native.Nat.{ℕ}
use lib.Dec.{eqb}
use lib.Pow.{pow_pos}
use Rattle.std.specs.List.{list_any}
use Rattle.word.specs.Field.{bit}
use Rattle.word.proofs.FieldLaws.{field_past}
use Rattle.model.specs.declared.watched.WatchedAccess.{WatchedAccess}
use Rattle.model.specs.Watching.{asked_in}

-- The row's bit is set in the word, and the row is for this access to register r.
abbrev pub answers : WatchedAccess → ℕ → ℕ → Bool → Bool
answers row word r write = bit word row.position.0 && eqb row.register r && beq row.write write

-- Some row of a table answers.
pub any-answers : (rows : List WatchedAccess) (word r : ℕ) (write : Bool) → list_any (λ row. answers row word r write) rows ≡ asked_in rows word r write
unfolding asked_in
any-answers [] word r write = refl
any-answers (row ∷ rows) word r write = rw (any-answers rows word r write)

-- The word 0 asks for nothing.
pub zero-asks : (rows : List WatchedAccess) (r : ℕ) (write : Bool) → asked_in rows 0 r write ≡ false
unfolding asked_in
zero-asks [] r write = refl
zero-asks (row ∷ rows) r write = rw (field_past row.position.0 1 0 (pow_pos row.position.0), zero-asks rows r write)
