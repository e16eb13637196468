-- Laws of tests: conjunction, disjunction, implication, and a choice by a test. Assumes nothing.
use mathlib.Core.Path.{◌≡◌, refl, sym, ◌∙◌}
use mathlib.Core.Bool.{Bool, true, false, not, cond, ◌&&◌, ◌||◌, false≢true, true≢false}
use mathlib.Core.List.{List, [], ◌∷◌}
use Prim.Native.Nat.{ℕ, ◌<◌}
use native.Mathlib.Omega.{arith}
use lib.Dec.{eqb}
use borrow.Author.Tests.{eqb-false}
use Rattle.model.specs.Bounded.{all_of}

pub and_left : (a b : Bool) → (a && b) ≡ true → a ≡ true
and_left true b h = refl
and_left false b h = h

pub and_right : (a b : Bool) → (a && b) ≡ true → b ≡ true
and_right true b h = h
and_right false b h = absurd (false≢true h)

pub and_both : (a b : Bool) → a ≡ true → b ≡ true → (a && b) ≡ true
and_both a b p q = rw (p, q)

pub or_left : (a b : Bool) → (a || b) ≡ false → a ≡ false
or_left true b h = absurd (true≢false h)
or_left false b h = refl

pub or_right : (a b : Bool) → (a || b) ≡ false → b ≡ false
or_right true b h = absurd (true≢false h)
or_right false b h = h

-- What follows from either part follows from a disjunction.
pub or_elim : {P : Type 0} (a b : Bool) → (a ≡ true → P) → (b ≡ true → P) → (a || b) ≡ true → P
or_elim true b f g h = f refl
or_elim false b f g h = g h

-- A conjunction that fails: the second part fails where the first holds, and the first where the second holds.
pub and-not : (a b : Bool) → (a && b) ≡ false → a ≡ true → b ≡ false
and-not true b h e = h
and-not false b h e = absurd (false≢true e)

pub and-off : (a b : Bool) → (a && b) ≡ false → b ≡ true → a ≡ false
and-off true b h e = sym (sym h ∙ e)
and-off false b h e = refl

pub not-and : (a b : Bool) → (a ≡ true → b ≡ false) → (a && b) ≡ false
not-and true b h = h refl
not-and false b h = refl

-- An implication as a test, and back.
pub implied : (a b : Bool) → (not a || b) ≡ true → a ≡ true → b ≡ true
implied true b h e = h
implied false b h e = absurd (false≢true e)

pub implies-test : (a b : Bool) → (a ≡ true → b ≡ true) → (not a || b) ≡ true
implies-test true b f = f refl
implies-test false b f = refl

-- An equal first part, and an equal second where the first holds.
pub and-cong : {a b c d : Bool} → a ≡ c → (c ≡ true → b ≡ d) → (a && b) ≡ (c && d)
and-cong {a} {b} {c} {d} e h = rw e (go c h)
  where
    go : (t : Bool) → (t ≡ true → b ≡ d) → (t && b) ≡ (t && d)
    go true k = k refl
    go false k = refl

-- A list of conditions that all hold, taken apart and put together.
abbrev pub Hold : List Bool → Type 0
Hold [] = Unit
Hold (b ∷ bs) = (b ≡ true) × Hold bs

pub hold : (bs : List Bool) → all_of bs ≡ true → Hold bs
unfolding all_of
hold [] h = tt
hold (b ∷ bs) h = (and_left b (all_of bs) h, hold bs (and_right b (all_of bs) h))

pub all_hold : (bs : List Bool) → Hold bs → all_of bs ≡ true
unfolding all_of
all_hold [] h = refl
all_hold (b ∷ bs) h = rw (h.0, all_hold bs h.1)

-- A choice between equal things, within a function, and made twice.
pub cond_same : {A : Type 0} (b : Bool) (x : A) → cond b x x ≡ x
cond_same true x = refl
cond_same false x = refl

pub cond-ap : {A B : Type 0} (f : A → B) (b : Bool) (x y : A) → cond b (f x) (f y) ≡ f (cond b x y)
cond-ap f true x y = refl
cond-ap f false x y = refl

pub cond-then : {A : Type 0} (b : Bool) (x y : A) → cond b (cond b x y) y ≡ cond b x y
cond-then true x y = refl
cond-then false x y = refl

pub cond-else : {A : Type 0} (b : Bool) (x y : A) → cond b x (cond b x y) ≡ cond b x y
cond-else true x y = refl
cond-else false x y = refl

-- What holds of and_both choices holds of the choice.
pub cond-holds : {A : Type 0} (P : A → Type 0) (b : Bool) (x y : A) → P x → P y → P (cond b x y)
cond-holds P true x y p q = p
cond-holds P false x y p q = q

-- A number that is not 0.
pub positive : (n : ℕ) → eqb n 0 ≡ false → 0 < n
positive n h = let d : (n ≡ 0 → ⊥) = eqb-false n 0 h in omega arith
