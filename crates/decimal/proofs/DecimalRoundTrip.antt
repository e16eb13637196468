-- The theorem that reading what was written gives the number, for every number below 2^64.
-- Assumes nothing.
use Rattle.std.specs.Prelude.{Some}
use Prim.Native.Nat.{ℕ, zero, suc, ◌/◌, ◌%◌, ◌<◌, ◌^◌}
use mathlib.Core.Path.{◌≡◌, ◌∙◌}
use mathlib.Core.List.{List, [], ◌∷◌}
use native.Mathlib.Nat.{pow-suc}
use native.Mathlib.Omega.{arith}
use Rattle.decimal.specs.Read.{read_decimal, read_from}
use Rattle.decimal.specs.Write.{decimal, digits_before, digits_in, last_byte}
use Rattle.decimal.proofs.Digits.{either}
use Rattle.decimal.proofs.DigitReading.{digit_value, extended-value}

-- A digit in front of other bytes.
read-digit : (n : ℕ) (rest : List ℕ) → n < 10 → read_decimal (last_byte n ∷ rest) ≡ read_from n rest
unfolding read_decimal
read-digit n rest h = let e : n % 10 ≡ n = omega arith in rw (digit_value (n % 10) (omega arith), e)

-- The digits of n in front of other bytes.
read-digits : (spare n : ℕ) (rest : List ℕ) → n < 10 ^ suc spare → n < 2 ^ 64
    → read_decimal (digits_in spare n rest) ≡ read_from n rest
unfolding digits_in
read-digits zero n rest h l = read-digit n rest (omega arith)
read-digits (suc spare) n rest h l =
    either n (λ s. read_decimal s ≡ read_from n rest) (read-digit n rest)
    (λ more. read-digits spare (n / 10) _ (omega (arith, pow-suc 10 (suc spare))) (omega arith) ∙ rw (extended-value n more l))

-- Reading what was written gives the number.
pub round_trip : (n : ℕ) → n < 2 ^ 64 → read_decimal (decimal n) ≡ Some n
unfolding digits_before
round_trip n h = read-digits 19 n [] (omega arith) h
