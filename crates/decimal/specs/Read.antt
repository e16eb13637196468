-- What a field of bytes says as a number. Numbers are decimal, 0 to 2^64-1, no leading zeros.
-- A field that is empty, has another byte than a digit, goes on after a leading 0, or says 2^64 or more is malformed.
-- Assumes nothing.
use Rattle.std.specs.Prelude.{ℕ, ◌+◌, ◌-◌, ◌*◌, ◌^◌, List, [], ◌∷◌, ◌&&◌, cond, ltb, leb, None, Option, Some}

-- What follows a number; what is malformed stays so.
abbrev pub and_then : Option ℕ → (ℕ → Option ℕ) → Option ℕ
and_then (Some n) next = next n
and_then None next = None

-- A digit is a byte from 48, which is 0, to 57, which is 9.
abbrev pub digit_of : ℕ → Option ℕ
digit_of byte = cond (leb 48 byte && leb byte 57) (Some (byte - 48)) None

-- The number n with the digit after it: nothing follows 0, and numbers end at 2^64-1.
abbrev pub extended : ℕ → ℕ → Option ℕ
extended n byte =
    and_then (digit_of byte) (λ d. cond (ltb 0 n && ltb (n * 10 + d) (2 ^ 64)) (Some (n * 10 + d)) None)

-- The number n with the bytes after it.
abbrev pub read_from : ℕ → List ℕ → Option ℕ
read_from n [] = Some n
read_from n (byte ∷ bytes) = and_then (extended n byte) (λ m. read_from m bytes)

-- Numbers are decimal, 0 to 2^64-1, no leading zeros.
unfoldable pub read_decimal : List ℕ → Option ℕ
read_decimal [] = None
read_decimal (byte ∷ bytes) = and_then (digit_of byte) (λ d. read_from d bytes)
