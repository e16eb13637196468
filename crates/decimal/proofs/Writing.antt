-- Laws of the writer's loop, which stores the digits of a number from the last to the first.
-- They keep its invariant, `Writing`, and say what the buffer holds at its end. Assumes nothing.
use Prim.Native.Nat.{ℕ, suc, ◌+◌, ◌-◌, ◌*◌, ◌/◌, ◌≤◌, ◌<◌, ◌^◌}
use mathlib.Core.Path.{◌≡◌, refl, sym, ap, ◌∙◌}
use mathlib.Core.List.{List, [], ◌∷◌}
use native.Mathlib.Omega.{arith}
use lib.ListN.{length, set}
use lib.Seq.{length-sets, set_comm, sets}
use Rattle.decimal.specs.Write.{decimal, digits_before, last_byte}
use Rattle.decimal.proofs.Digits.{last-digit, one-digit, some-digit}

-- The last digit is what a number is above ten times its tenth.
pub above-tens : (n : ℕ) → 48 + (n - n / 10 * 10) ≡ last_byte n
above-tens n = omega arith

-- A store in front of a run of stores.
pub set-sets : (l : List ℕ) (i j a : ℕ) (vs : List ℕ) → i < j → set (sets l j vs) i a ≡ sets (set l i a) j vs
set-sets l i j a [] h = refl
set-sets l i j a (v ∷ vs) h = set-sets (set l j v) i (suc j) a vs (omega arith) ∙ rw (set_comm l j i v a (λ e. omega arith))

-- What the loop keeps: a text stands from i on, and with the digits of `rest` before it, it is the text of the number,
-- which is to start at `at`.
pub record Writing (buffer : List ℕ) (at value : ℕ) (out : List ℕ) (i rest : ℕ) : Type 0 where
  pub text : List ℕ
  pub stored : out ≡ sets buffer i text
  pub place : i + length text ≡ at + length (decimal value)
  pub whole : digits_before rest text ≡ decimal value
  pub fits : rest < 2 ^ 64

module _ {buffer : List ℕ} {at value : ℕ} {out : List ℕ} {i rest : ℕ} (w : Writing buffer at value out i rest) where
  -- There is a place left for a digit.
  pub place-left : (at < i) × (i ≤ at + length (decimal value)) × (length out ≡ length buffer)
  place-left =
      omega (arith, some-digit rest w.text, ap length w.whole, ap length w.stored, length-sets buffer i w.text)

  -- The last digit of what is left is stored in front of the text.
  stored-digit : set out (i - 1) (last_byte rest) ≡ sets buffer (i - 1) (last_byte rest ∷ w.text)
  stored-digit =
      let next : i ≡ suc (i - 1) = omega (arith, place-left) in
      cc (set-sets buffer (i - 1) i (last_byte rest) w.text (omega arith))

  -- It is stored, and there are more.
  pub digit-put : 9 < rest → Writing buffer at value (set out (i - 1) (last_byte rest)) (i - 1) (rest / 10)
  digit-put more = record {
    text = last_byte rest ∷ w.text;
    stored = stored-digit;
    place = omega (arith, place-left);
    whole = sym (last-digit rest w.text more w.fits) ∙ w.whole;
    fits = omega arith;
  }

  -- How many were left, by the place where it is stored.
  one-left : rest < 10 → i ≡ at + 1
  unfolding digits_before
  one-left h = omega (arith, ap length (sym (one-digit 19 rest w.text h) ∙ w.whole))

  more-left : 9 < rest → at + 1 < i
  more-left more =
      omega (arith, some-digit (rest / 10) (last_byte rest ∷ w.text), ap length (sym (last-digit rest w.text more w.fits) ∙ w.whole))

  -- It is stored, and was the only one: the text stands where it is to start.
  pub text-put : rest < 10 → set out (i - 1) (last_byte rest) ≡ sets buffer at (decimal value)
  unfolding digits_before
  text-put h =
      let whole : last_byte rest ∷ w.text ≡ decimal value = sym (one-digit 19 rest w.text h) ∙ w.whole in
      let start : i - 1 ≡ at = omega (arith, one-left h) in
      cc stored-digit

-- What the loop keeps: there are digits left for the places from `at` to i, or the text stands where it is to start.
pub record Stored (buffer : List ℕ) (at value : ℕ) (out : List ℕ) (i rest : ℕ) : Type 0 where
  pub left : at < i → Writing buffer at value out i rest
  pub whole : i ≤ at → out ≡ sets buffer at (decimal value)

-- Before the first digit.
pub none-stored : (buffer : List ℕ) (at value i : ℕ) → i ≡ at + length (decimal value) → value < 2 ^ 64 → Stored buffer at value buffer i value
none-stored buffer at value i e fits = record {
  left = λ h. record { text = []; stored = refl; place = omega arith; whole = refl; fits = fits };
  whole = λ h. absurd (omega (arith, some-digit value []));
}

-- One digit more.
pub one-stored : (buffer : List ℕ) (at value : ℕ) (out : List ℕ) (i rest : ℕ) → at < i → Stored buffer at value out i rest
    → Stored buffer at value (set out (i - 1) (48 + (rest - rest / 10 * 10))) (i - 1) (rest / 10)
one-stored buffer at value out i rest h s =
    let w = s.left h in
    rw (above-tens rest) (record {
      left = λ k. digit-put w (grind (arith, one-left w));
      whole = λ k. text-put w (grind (arith, more-left w));
    })
