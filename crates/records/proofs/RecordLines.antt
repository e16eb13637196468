-- One record's line says its number, and no other line does; the lines of some places likewise. Assumes nothing.
use Rattle.std.specs.Prelude.{None, Option, Some}
use mathlib.Core.Path.{◌≡◌, refl, ap, ◌∙◌}
use mathlib.Core.Bool.{Bool, true, false, not, cond, ◌||◌}
use mathlib.Core.List.{List, [], ◌∷◌, ◌++◌, map}
use Prim.Native.Nat.{ℕ, suc, ◌≤◌, ◌<◌, ◌^◌}
use native.Mathlib.Omega.{arith}
use lib.Dec.{leb, eqb}
use lib.ListN.{length}
use borrow.Author.Tests.{le-leb, leb-true, eq-eqb, eqb-true}
use Rattle.decimal.proofs.OneText.{one-text}
use Rattle.decimal.proofs.DigitReading.{no_number}
use Rattle.decimal.proofs.DecimalRoundTrip.{round_trip}
use Rattle.decimal.specs.Read.{read_decimal}
use Rattle.decimal.specs.Write.{decimal}
use Rattle.records.specs.Places.{Place}
use Rattle.records.specs.Reading.{is_flag, number_after, taken, line_value, Taken, followed, taking}
use Rattle.records.specs.RecordTexts.{front, record_line, lines_at}

pub no-some : {A B : Type 0} {x : A} → None ≡ Some x → B
no-some h = absurd (let z : ◌≡◌ {A = ℕ} 0 1 = cc in omega arith)

pub some_same : {A : Type 0} {x y : A} → Some x ≡ Some y → x ≡ y
some_same h = cc

-- The bytes in front are these.
after_front : (bytes line : List ℕ) → number_after bytes (bytes ++ line) ≡ read_decimal line
unfolding number_after
after_front [] line = refl
after_front (a ∷ bytes) line = rw (eq-eqb a a refl) (after_front bytes line)

front-only : (bytes line : List ℕ) (x : ℕ) → number_after bytes line ≡ Some x → (x < 2 ^ 64) × (line ≡ bytes ++ decimal x)
unfolding number_after
front-only [] line x h = one-text line x h
front-only (a ∷ bytes) [] x h = no_number h
front-only (a ∷ bytes) (b ∷ line) x h = go (eqb a b) refl (front-only bytes line x) h
  where
    go : (t : Bool) → eqb a b ≡ t → (number_after bytes line ≡ Some x → (x < 2 ^ 64) × (line ≡ bytes ++ decimal x))
        → cond t (number_after bytes line) None ≡ Some x → (x < 2 ^ 64) × (b ∷ line ≡ a ∷ bytes ++ decimal x)
    go true e ih k = ((ih k).0, rw (eqb-true a b e) (ap (λ (more : List ℕ). b ∷ more) (ih k).1))
    go false e ih k = no_number k

-- What a quantity at a place may be.
pub record Fit (p : Place) (x : ℕ) : Type 0 where
  pub word : x < 2 ^ 64
  pub flag : is_flag p ≡ true → x ≤ 1

line-back : (p : Place) (x : ℕ) → Fit p x → line_value p (record_line p x) ≡ Some x
unfolding line_value record_line
line-back p x fit = rw (after_front (front p) (decimal x), round_trip x fit.word) (go (is_flag p) fit.flag)
  where
    go : (b : Bool) → (b ≡ true → x ≤ 1) → taken b (Some x) ≡ Some x
    go true h = rw (le-leb x 1 (h refl))
    go false h = refl

line-only : (p : Place) (line : List ℕ) (x : ℕ) → line_value p line ≡ Some x → Fit p x × (line ≡ record_line p x)
unfolding line_value record_line
line-only p line x h = go (is_flag p) refl (number_after (front p) line) refl h
  where
    last : (b t : Bool) (y : ℕ) → is_flag p ≡ b → leb y 1 ≡ t → number_after (front p) line ≡ Some y → cond (not b || t) (Some y) None ≡ Some x
        → Fit p x × (line ≡ front p ++ decimal x)
    last true true y i e n k =
        let same : y ≡ x = cc in (
          record { word = omega (arith, front-only (front p) line y n); flag = λ q. omega (arith, leb-true y 1 e) },
          (front-only (front p) line y n).1 ∙ ap (λ (x : ℕ). front p ++ decimal x) same,
        )
    last true false y i e n k = no-some k
    last false t y i e n k =
        let same : y ≡ x = cc in (
          record { word = omega (arith, front-only (front p) line y n); flag = λ q. absurd (let z : ◌≡◌ {A = ℕ} 0 1 = cc in omega arith) },
          (front-only (front p) line y n).1 ∙ ap (λ (x : ℕ). front p ++ decimal x) same,
        )

    go : (b : Bool) → is_flag p ≡ b → (n : Option ℕ) → number_after (front p) line ≡ n → taken b n ≡ Some x → Fit p x × (line ≡ front p ++ decimal x)
    go b i None n k = no-some k
    go b i (Some y) n k = last b (leb y 1) y i refl n k

-- The lines of some places.
pub taking-back : (g : Place → ℕ) (ps : List Place) (rest : List (List ℕ)) → ((p : Place) → Fit p (g p))
    → taking ps (lines_at g ps ++ rest) ≡ Some (record { values = map g ps; rest = rest })
unfolding taking
taking-back g [] rest fit = refl
taking-back g (p ∷ ps) rest fit = rw (line-back p (g p) (fit p), taking-back g ps rest fit)

abbrev pub zipped : List Place → List ℕ → List (List ℕ)
zipped [] xs = []
zipped (p ∷ ps) [] = []
zipped (p ∷ ps) (x ∷ xs) = record_line p x ∷ zipped ps xs

pub zipped_map : (g : Place → ℕ) (ps : List Place) → lines_at g ps ≡ zipped ps (map g ps)
zipped_map g [] = refl
zipped_map g (p ∷ ps) = ap (λ (more : List (List ℕ)). record_line p (g p) ∷ more) (zipped_map g ps)

abbrev pub Fits : List Place → List ℕ → Type 0
Fits [] xs = Unit {0}
Fits (p ∷ ps) [] = Unit {0}
Fits (p ∷ ps) (x ∷ xs) = Fit p x × Fits ps xs

pub record Only (ps : List Place) (lines : List (List ℕ)) (t : Taken) : Type 0 where
  pub these : lines ≡ zipped ps t.values ++ t.rest
  pub count : length t.values ≡ length ps
  pub fits : Fits ps t.values

pub taking-only : (ps : List Place) (lines : List (List ℕ)) (t : Taken) → taking ps lines ≡ Some t → Only ps lines t
unfolding taking
taking-only [] lines t h = let e : record { values = []; rest = lines } ≡ t = some_same h in rw (← e) (record { these = refl; count = refl; fits = tt })
taking-only (p ∷ ps) [] t h = no-some h
taking-only (p ∷ ps) (line ∷ lines) t h = go (line_value p line) refl (taking ps lines) (taking-only ps lines) h
  where
    go : (x : Option ℕ) → line_value p line ≡ x → (more : Option Taken) → ((t : Taken) → more ≡ Some t → Only ps lines t)
        → followed x more ≡ Some t → Only (p ∷ ps) (line ∷ lines) t
    go None e more ih k = no-some k
    go (Some x) e None ih k = no-some k
    go (Some x) e (Some u) ih k =
        let (fit, says) = line-only p line x e in
        let o = ih u refl in
        rw (← some_same k)
        (record {
          these = rw says (ap (λ (l : List (List ℕ)). record_line p x ∷ l) o.these);
          count = ap suc o.count;
          fits = (fit, o.fits);
        })
