-- Laws of the digits of a number: what stands before its last digit, how many there are, and that each is a digit.
-- Assumes nothing.
use Rattle.std.specs.Prelude.{None, Option, Some, IfNone, IfSome, unwrap_or}
use Prim.Native.Nat.{ℕ, zero, suc, ◌+◌, ◌*◌, ◌/◌, ◌%◌, ◌≤◌, ◌<◌, ◌^◌}
use mathlib.Core.Path.{◌≡◌, refl, ap, ◌∙◌}
use mathlib.Core.Bool.{Bool, true, false, cond}
use mathlib.Core.List.{List, [], ◌∷◌}
use borrow.Author.Tests.{le-ltb, lt-ltb, ltb-true, ltb-false}
use native.Mathlib.Nat.{one-le-pow, pow-suc}
use native.Mathlib.Omega.{arith}
use lib.Dec.{ltb}
use lib.ListN.{length}
use Rattle.decimal.specs.Write.{OnlyDigits, decimal, digits_before, digits_in, last_byte}

-- A number below 10 has one digit.
pub one-digit : (spare n : ℕ) (rest : List ℕ) → n < 10 → digits_in spare n rest ≡ last_byte n ∷ rest
unfolding digits_in
one-digit zero n rest h = refl
one-digit (suc spare) n rest h = rw (lt-ltb n 10 h)

pub only-digit : (n : ℕ) → n < 10 → decimal n ≡ (48 + n) ∷ []
unfolding digits_before
only-digit n h =
    let e : n % 10 ≡ n = omega arith in
    one-digit 19 n [] h ∙ rw e

-- Room for one digit more than there are changes nothing.
spared : (spare n : ℕ) (rest : List ℕ) → n < 10 ^ suc spare → digits_in spare n rest ≡ digits_in (suc spare) n rest
unfolding digits_in
spared zero n rest h = rw (lt-ltb n 10 (omega arith))
spared (suc spare) n rest h =
    ap (cond (ltb n 10) (last_byte n ∷ rest)) (spared spare (n / 10) _ (omega (arith, pow-suc 10 (suc spare))))

-- With room to spare, the last digit stands after the digits of a tenth of the number.
last-digit-in : (spare n : ℕ) (rest : List ℕ) → 9 < n → n < 10 ^ suc (suc spare)
    → digits_in (suc spare) n rest ≡ digits_in (suc spare) (n / 10) (last_byte n ∷ rest)
unfolding digits_in
last-digit-in spare n rest h l = rw (le-ltb n 10 h) (spared spare (n / 10) _ (omega (arith, pow-suc 10 (suc spare))))

-- The last digit of a number stands after the digits of a tenth of it.
pub last-digit : (n : ℕ) (rest : List ℕ) → 9 < n → n < 2 ^ 64
    → digits_before n rest ≡ digits_before (n / 10) (last_byte n ∷ rest)
unfolding digits_before
last-digit n rest h l = last-digit-in 18 n rest h (omega arith)

-- What holds where n is below 10, and where it is not.
pub either : (n : ℕ) (P : List ℕ → Type 0) {x y : List ℕ} → (n < 10 → P x) → (9 < n → P y) → P (cond (ltb n 10) x y)
either n P {x} {y} one more = go (ltb n 10) refl
  where
    go : (b : Bool) → ltb n 10 ≡ b → P (cond b x y)
    go true e = one (ltb-true n 10 e)
    go false e = more (ltb-false n 10 e)

-- A number below 10 ^ (k + 1) has at most k + 1 digits, and none has more than there is room for.
at_most : (spare k n : ℕ) (rest : List ℕ) → (k < spare → n < 10 ^ suc k)
    → length (digits_in spare n rest) ≤ suc k + length rest
unfolding digits_in
at_most zero k n rest h = omega arith
at_most (suc spare) zero n rest h =
    either n (λ l. length l ≤ 1 + length rest) (λ s. omega arith) (λ m. absurd (omega (arith, h (omega arith))))
at_most (suc spare) (suc k) n rest h =
    either n (λ l. length l ≤ suc (suc k) + length rest) (λ s. omega arith)
    (λ m. omega (arith, at_most spare k (n / 10) (last_byte n ∷ rest) (λ l. omega (arith, h (omega arith), pow-suc 10 (suc k)))))

-- A number from 10 ^ k on has at least k + 1 digits, and any has one.
at_least : (spare k n : ℕ) (rest : List ℕ) → k ≤ spare → (0 < k → 10 ^ k ≤ n)
    → suc k + length rest ≤ length (digits_in spare n rest)
unfolding digits_in
at_least zero k n rest f h = omega arith
at_least (suc spare) zero n rest f h =
    either n (λ l. 1 + length rest ≤ length l) (λ s. omega arith)
    (λ m. omega (arith, at_least spare 0 (n / 10) (last_byte n ∷ rest) (omega arith) (λ l. omega arith)))
at_least (suc spare) (suc k) n rest f h =
    either n (λ l. suc (suc k) + length rest ≤ length l)
    (λ s. absurd (omega (arith, h (omega arith), pow-suc 10 k, one-le-pow k 10 (omega arith))))
    (λ m. omega (arith, at_least spare k (n / 10) (last_byte n ∷ rest) (omega arith) (λ l. omega (arith, h (omega arith), pow-suc 10 k))))

-- A number below 10 ^ k has at most k digits.
pub few-digits : (k n : ℕ) → 0 < k → n < 10 ^ k → length (decimal n) ≤ k
unfolding digits_before
few-digits zero n p h = absurd (omega arith)
few-digits (suc k) n p h = omega (arith, at_most 19 k n [] (λ l. h))

-- A number from 10 ^ k on has more than k digits.
pub many-digits : (k n : ℕ) → k ≤ 19 → 10 ^ k ≤ n → k < length (decimal n)
unfolding digits_before
many-digits k n f h = omega (arith, at_least 19 k n [] f (λ l. h))

-- Every number has a digit.
pub some-digit : (n : ℕ) (rest : List ℕ) → length rest < length (digits_before n rest)
unfolding digits_before
some-digit n rest = omega (arith, at_least 19 0 n rest (omega arith) (λ l. omega arith))

-- The text of a number has 1 to 20 bytes.
pub text-length : (n : ℕ) → (1 ≤ length (decimal n)) × (length (decimal n) ≤ 20)
unfolding digits_before
text-length n = (some-digit n [], at_most 19 19 n [] (λ l. omega arith))

-- The text has one byte more than the power of 10 that the number reaches, and one where it reaches none.
pub digits-by-log : (n : ℕ) (log : Option ℕ) → IfNone log (n ≡ 0) → IfSome log (λ k. 10 ^ k ≤ n) → IfSome log (λ k. n < 10 * 10 ^ k) → IfSome log (λ k. k < 20)
    → unwrap_or log 0 + 1 ≡ length (decimal n)
digits-by-log n None h reached below bound = omega (arith, text-length n, few-digits 1 n (omega arith) (omega arith))
digits-by-log n (Some k) h reached below bound = omega (arith, few-digits (suc k) n (omega arith) (omega (arith, pow-suc 10 k)), many-digits k n (omega arith) reached)

-- Digits in front of digits.
digits_in_lem : (spare n : ℕ) (rest : List ℕ) → OnlyDigits rest → OnlyDigits (digits_in spare n rest)
unfolding digits_in
digits_in_lem zero n rest h = (omega arith, omega arith, h)
digits_in_lem (suc spare) n rest h =
    let more : OnlyDigits (last_byte n ∷ rest) = (omega arith, omega arith, h) in
    either n OnlyDigits (λ s. more) (λ m. digits_in_lem spare (n / 10) _ more)

-- The bytes of a number's text are digits: none of them is a tab or a line feed.
pub text-digits : (n : ℕ) → OnlyDigits (decimal n)
unfolding digits_before
text-digits n = digits_in_lem 19 n [] tt
