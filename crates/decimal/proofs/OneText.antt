-- The theorem that a number has exactly one text: what is read as n is what is written for n.
-- Assumes nothing.
use Rattle.std.specs.Prelude.{Some}
use Prim.Native.Nat.{ℕ, ◌<◌, ◌^◌}
use mathlib.Core.Path.{◌≡◌, ap}
use mathlib.Core.List.{List, [], ◌∷◌}
use native.Mathlib.Omega.{arith}
use Rattle.decimal.specs.Read.{digit_of, extended, read_decimal, read_from}
use Rattle.decimal.specs.Write.{decimal, digits_before, last_byte}
use Rattle.decimal.proofs.Digits.{last-digit, one-digit}
use Rattle.decimal.proofs.DigitReading.{digit-byte, extended-byte, followed, no_number}

-- The bytes that were read after the number n stand after its digits in the text of the number that they made.
rest_of : (bytes : List ℕ) (n m : ℕ) → n < 2 ^ 64 → read_from n bytes ≡ Some m
    → (m < 2 ^ 64) × (digits_before n bytes ≡ decimal m)
rest_of [] n m f h = let e : n ≡ m = cc in (omega arith, ap decimal e)
rest_of (byte ∷ bytes) n m f h =
    let (k, e, g) = followed (extended n byte) h in
    let (some, below, tens, last) = extended-byte n byte k e in
    let (fits, text) = rest_of bytes k m below g in
    (fits, cc (last-digit k bytes some below))

-- A number has exactly one text: a field that is read as n is the text of n, and n is below 2^64.
pub one-text : (field : List ℕ) (n : ℕ) → read_decimal field ≡ Some n → (n < 2 ^ 64) × (field ≡ decimal n)
unfolding read_decimal digits_before
one-text [] n h = no_number h
one-text (byte ∷ bytes) n h =
    let (d, e, g) = followed (digit_of byte) h in
    let (is, small) = digit-byte byte d e in
    let (fits, text) = rest_of bytes d n (omega arith) g in
    let front : byte ≡ last_byte d = omega arith in
    (fits, cc (one-digit 19 d bytes small))
