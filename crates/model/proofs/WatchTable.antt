-- The rows of the table of watched registers: one computed test of all rows, carried to each. Assumes nothing.
use mathlib.Core.Path.{◌≡◌, refl}
use mathlib.Core.Bool.{Bool, true, false, beq, ◌&&◌, false≢true}
use Prim.Native.Nat.{ℕ, ◌^◌}
use native.Mathlib.Omega.{arith}
use lib.Dec.{eqb}
use borrow.Author.Tests.{eqb-true}
use Rattle.word.specs.RegisterFields.{position_of}
use Rattle.model.specs.Bounded.{every}
use Rattle.model.specs.Claims.{row, TableDecides}
use Rattle.model.specs.Watching.{watch_table, intercept_control_number, asked_in}
use Rattle.model.proofs.Bools.{and_left, and_right}
use Rattle.model.proofs.BoundedLaws.{every-at}

-- The test of row i: its bit is the named one, and asks for the row's access and no other.
abbrev asks_as : ℕ → ℕ → Bool → Bool
asks_as i r write = beq (asked_in watch_table (2 ^ i) r write) (eqb (row i).register r && beq (row i).write write)

abbrev placed : ℕ → Bool
placed i = let at = position_of intercept_control_number i in eqb (row i).position.0 at.0 && eqb (row i).position.1 at.1

all-rows : every 25 (λ i. placed i && every 32 (λ r. asks_as i r true && asks_as i r false)) ≡ true
unfolding every asked_in
all-rows = refl

same : (a b : Bool) → beq a b ≡ true → a ≡ b
same true true e = refl
same false false e = refl
same true false e = absurd (false≢true e)
same false true e = absurd (false≢true e)

pub table-decides : TableDecides
table-decides i h =
    let t = every-at 25 (λ i. placed i && every 32 (λ r. asks_as i r true && asks_as i r false)) all-rows i h in
    let at = position_of intercept_control_number i in
    let p = and_left (placed i) _ t in
    let first : (row i).position.0 ≡ at.0 = eqb-true _ _ (and_left (eqb (row i).position.0 at.0) _ p) in
    let second : (row i).position.1 ≡ at.1 = eqb-true _ _ (and_right (eqb (row i).position.0 at.0) _ p) in
    record {
      named = λ j. record { 0 = first j; 1 = second j };
      asks = λ r write k. go r write (every-at 32 (λ r. asks_as i r true && asks_as i r false) (and_right (placed i) _ t) r (omega arith));
    }
  where
    go : (r : ℕ) (write : Bool) → (asks_as i r true && asks_as i r false) ≡ true → asked_in watch_table (2 ^ i) r write ≡ (eqb (row i).register r && beq (row i).write write)
    go r true e = same _ _ (and_left (asks_as i r true) _ e)
    go r false e = same _ _ (and_right (asks_as i r true) _ e)
