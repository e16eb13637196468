-- Laws of reading: what one byte more of a field does, and which bytes and numbers belong together.
-- Assumes nothing.
use Rattle.std.specs.Prelude.{None, Option, Some}
use Prim.Native.Nat.{ℕ, ◌+◌, ◌-◌, ◌*◌, ◌/◌, ◌%◌, ◌≤◌, ◌<◌, ◌^◌}
use mathlib.Core.Path.{◌≡◌, refl}
use mathlib.Core.Bool.{Bool, true, false, ◌&&◌, cond}
use mathlib.Core.List.{List, [], ◌∷◌}
use borrow.Author.Tests.{le-leb, leb-true, lt-ltb, ltb-true}
use native.Mathlib.Numerals.{add-one}
use native.Mathlib.Omega.{arith}
use lib.Dec.{leb, ltb}
use lib.ListN.{drop, drop_of_length-le, get_or, length}
use lib.Seq.{drop-cons}
use Rattle.decimal.specs.Read.{and_then, digit_of, extended, read_decimal, read_from}
use Rattle.decimal.specs.Write.{last_byte}

-- An empty field.
pub read_none : (field : List ℕ) → length field ≡ 0 → None ≡ read_decimal field
unfolding read_decimal
read_none [] h = refl
read_none (byte ∷ bytes) h = absurd (omega arith)

-- The first byte of a field, which was found to be s.
pub read_first : (field : List ℕ) {first : ℕ} {rest : List ℕ} {s : Option ℕ} → field ≡ first ∷ rest → digit_of first ≡ s
    → read_decimal field ≡ and_then s (λ d. read_from d rest)
unfolding read_decimal
read_first field e f = rw (e, f)

-- A byte after the number n, which was found to make it s.
pub read_next : (field : List ℕ) (i n : ℕ) {r s : Option ℕ} → i < length field → r ≡ extended n (get_or field i 0) → r ≡ s
    → read_from n (drop i field) ≡ and_then s (λ m. read_from m (drop (i + 1) field))
read_next field i n h e f = rw (add-one i, drop-cons field i 0 h, ← e, f)

-- The end of a field.
pub read-end : (field : List ℕ) (i n : ℕ) → length field ≤ i → Some n ≡ read_from n (drop i field)
read-end field i n h = rw (drop_of_length-le field h)

-- A malformed field is no number.
pub no_number : {A : Type 0} {n : ℕ} → None ≡ Some n → A
no_number h = absurd (let z : ◌≡◌ {A = ℕ} 0 1 = cc in omega arith)

-- Where a number came of what follows, there was a number to follow.
pub followed : (r : Option ℕ) {next : ℕ → Option ℕ} {n : ℕ} → and_then r next ≡ Some n
    → (m : ℕ) × (r ≡ Some m) × (next m ≡ Some n)
followed (Some m) h = (m, refl, h)
followed None h = no_number h

-- Where two tests both hold, each does.
pub and_parts : (a b : Bool) → (a && b) ≡ true → (a ≡ true) × (b ≡ true)
and_parts true b h = (refl, h)
and_parts false b h = absurd (let z : ◌≡◌ {A = ℕ} 0 1 = cc in omega arith)

-- Where two tests let a number pass, both held.
tested : (a b : Bool) {m n : ℕ} → cond (a && b) (Some m) None ≡ Some n → (a ≡ true) × (b ≡ true) × (m ≡ n)
tested true true {m} {n} h = (refl, refl, cc)
tested true false h = no_number h
tested false b h = no_number h

-- A digit's byte is read as the digit.
pub digit_value : (d : ℕ) → d < 10 → digit_of (48 + d) ≡ Some d
digit_value d h =
    let e : 48 + d - 48 ≡ d = omega arith in
    rw (le-leb 48 (48 + d) (omega arith), le-leb (48 + d) 57 (omega arith), e)

-- Only that byte is.
pub digit-byte : (byte d : ℕ) → digit_of byte ≡ Some d → (byte ≡ 48 + d) × (d < 10)
digit-byte byte d h =
    let (low, high, e) = tested (leb 48 byte) (leb byte 57) h in
    omega (arith, leb-true 48 byte low, leb-true byte 57 high)

-- The last digit of n after its tenth is read as n.
pub extended-value : (n : ℕ) → 9 < n → n < 2 ^ 64 → extended (n / 10) (last_byte n) ≡ Some n
extended-value n h l =
    let e : n / 10 * 10 + n % 10 ≡ n = omega arith in
    rw (digit_value (n % 10) (omega arith), e, lt-ltb 0 (n / 10) (omega arith), lt-ltb n (2 ^ 64) l)

-- Only that digit and that number are.
pub extended-byte : (n byte m : ℕ) → extended n byte ≡ Some m → (9 < m) × (m < 2 ^ 64) × (m / 10 ≡ n) × (last_byte m ≡ byte)
extended-byte n byte m h =
    let (d, is_digit, g) = followed (digit_of byte) h in
    let (some, below, e) = tested (ltb 0 n) (ltb (n * 10 + d) (2 ^ 64)) g in
    omega (arith, digit-byte byte d is_digit, ltb-true 0 n some, ltb-true (n * 10 + d) (2 ^ 64) below)
