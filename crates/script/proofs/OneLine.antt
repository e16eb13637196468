-- The theorem that an event has exactly one line: what is read as an event is the line of this event. A first line has one with a
-- seventh field, and where SMEP is not available one without.
-- Assumes nothing.
use Rattle.std.specs.Prelude.{Err, None, Ok, Option, Some, Result}
use Prim.Native.Nat.{ℕ, zero, suc}
use mathlib.Core.Bool.{Bool, true, false, cond}
use mathlib.Core.List.{List, [], ◌∷◌, ◌++◌, map}
use mathlib.Core.Logic.{◌⊎◌, inl, inr}
use mathlib.Core.Path.{◌≡◌, refl, sym, ap, ◌∙◌}
use borrow.Author.Tests.{eqb-true}
use native.Mathlib.Omega.{arith}
use lib.Dec.{eqb, ltb}
use lib.ListN.{get_or, length}
use Rattle.decimal.specs.Write.{decimal}
use Rattle.model.specs.declared.answer.Refusal.{Refusal}
use Rattle.model.specs.declared.answer.Refusal.TheVariants.{LineTooLong, UnknownWord, WrongFieldCount, NotANumber}
use Rattle.model.specs.declared.event.Event.{Event}
use Rattle.model.specs.declared.machine.FirstLine.{FirstLine}
use Rattle.script.specs.Bytes.{same}
use Rattle.script.specs.EventForms.{events, line_event}
use Rattle.script.specs.First.{first_form, line_first, vsm, vsm_short}
use Rattle.script.specs.LineForms.{Form, among, fields, in_form, longest_line, made, numbers_in, of_numbers, said, said_in}
use Rattle.script.specs.Texts.{Text, action_text, event_line, event_text, first_line_of, first_text, parted, short_first_line_of, short_first_text, text, together, written}
use Rattle.script.proofs.Parted.{numbers-text, put-together}
use Rattle.script.proofs.NumberReading.{numbers-length}
use Rattle.script.proofs.Same.{same_true}

-- The first n numbers from a place on; all of them.
abbrev firsts : ℕ → ℕ → List ℕ → List ℕ
firsts zero place numbers = []
firsts (suc n) place numbers = get_or numbers place 0 ∷ firsts n (suc place) numbers

firsts-behind : (n place x : ℕ) (numbers : List ℕ) → firsts n (suc place) (x ∷ numbers) ≡ firsts n place numbers
firsts-behind zero place x numbers = refl
firsts-behind (suc n) place x numbers = ap (λ (more : List ℕ). get_or numbers place 0 ∷ more) (firsts-behind n (suc place) x numbers)

all_firsts : (numbers : List ℕ) → firsts (length numbers) 0 numbers ≡ numbers
all_firsts [] = refl
all_firsts (x ∷ numbers) = ap (λ (more : List ℕ). x ∷ more) (firsts-behind (length numbers) 0 x numbers ∙ all_firsts numbers)

-- What holds of each form of a list.
infixr 20 ◌and◌
data Each {A : Type 0} (P : Form A → Type 0) : List (Form A) → Type 0 where
  done : Each P []
  ◌and◌ : {form : Form A} {forms : List (Form A)} → P form → Each P forms → Each P (form ∷ forms)

-- The text of what a form's numbers make is the form and these numbers.
abbrev Agrees : {A : Type 0} → (A → Text A) → Form A → Type 0
Agrees text_of form =
    (numbers : List ℕ) → text_of (made form.count form.value 0 numbers) ≡ text form (firsts form.count 0 numbers)

-- A reading that keeps values apart from what is malformed, and each from the others, over forms whose texts agree.
module _ {A R : Type 0} (good : A → R) (bad : Refusal → R) (text_of : A → Text A) (apart : (r : Refusal) (a : A) → bad r ≡ good a → ⊥)
    (exact : (a b : A) → good a ≡ good b → a ≡ b) where
  one_form : (form : Form A) (more : List (List ℕ)) (a : A) → Agrees text_of form → in_form good bad form more ≡ good a
      → (numbers : List ℕ) × (more ≡ map decimal numbers) × (text_of a ≡ text form numbers)
  one_form form more a agrees = go (eqb (length more) form.count) (numbers_in more) refl refl
    where
      go : (t : Bool) (found : Option (List ℕ)) → eqb (length more) form.count ≡ t → numbers_in more ≡ found
          → cond t (of_numbers good bad form found) (bad WrongFieldCount) ≡ good a
          → (numbers : List ℕ) × (more ≡ map decimal numbers) × (text_of a ≡ text form numbers)
      go true None c e h = absurd (apart NotANumber a h)
      go true (Some numbers) c e h =
          let counted : form.count ≡ length numbers = sym (numbers-length more numbers e ∙ eqb-true (length more) form.count c) in (
            numbers,
            numbers-text more numbers e,
            ap text_of (sym (exact _ a h)) ∙ agrees numbers ∙ ap (text form) (ap (λ (n : ℕ). firsts n 0 numbers) counted ∙ all_firsts numbers),
          )
      go false found c e h = absurd (apart WrongFieldCount a h)

  one-among : (forms : List (Form A)) (word : List ℕ) (more : List (List ℕ)) (a : A) → Each (Agrees text_of) forms
      → among good bad forms word more ≡ good a → word ++ parted more ≡ written (text_of a)
  unfolding among written
  one-among [] word more a done h = absurd (apart UnknownWord a h)
  one-among (form ∷ forms) word more a (here and later) h = go (same word form.word) refl (one-among forms word more a later) h
    where
      go : (t : Bool) → same word form.word ≡ t → (among good bad forms word more ≡ good a → word ++ parted more ≡ written (text_of a))
          → cond t (in_form good bad form more) (among good bad forms word more) ≡ good a → word ++ parted more ≡ written (text_of a)
      go true e ih k =
          let (numbers, says, texts) = one_form form more a here k in
          ap (λ (w : List ℕ). w ++ parted more) (same_true word form.word e)
          ∙ ap (λ (m : List (List ℕ)). form.word ++ parted m) says ∙ sym (ap written texts)
      go false e ih k = ih k

  one-said-in : (forms : List (Form A)) (parts : List (List ℕ)) (a : A) → Each (Agrees text_of) forms
      → said_in good bad forms parts ≡ good a → together parts ≡ written (text_of a)
  one-said-in forms [] a agrees h = absurd (apart UnknownWord a h)
  one-said-in forms (word ∷ more) a agrees h = one-among forms word more a agrees h

  one-said : (forms : List (Form A)) (line : List ℕ) (a : A) → Each (Agrees text_of) forms → said good bad forms line ≡ good a
      → line ≡ written (text_of a)
  unfolding said
  one-said forms line a agrees h = put-together line ∙ go (ltb longest_line (length line)) h
    where
      go : (t : Bool) → cond t (bad LineTooLong) (said_in good bad forms (fields line)) ≡ good a → together (fields line) ≡ written (text_of a)
      go true k = absurd (apart LineTooLong a k)
      go false k = one-said-in forms (fields line) a agrees k

  -- What holds of all that a form makes holds of what a line says in this form.
  module _ (form : Form A) (P : A → Type 0) (makes : (numbers : List ℕ) → P (made form.count form.value 0 numbers)) where
    made_in : (more : List (List ℕ)) (a : A) → in_form good bad form more ≡ good a → P a
    made_in more a = go (eqb (length more) form.count) (numbers_in more)
      where
        go : (t : Bool) (found : Option (List ℕ)) → cond t (of_numbers good bad form found) (bad WrongFieldCount) ≡ good a → P a
        go true None h = absurd (apart NotANumber a h)
        go true (Some numbers) h = rw (exact _ a h) at (makes numbers)
        go false found h = absurd (apart WrongFieldCount a h)

    made-among : (word : List ℕ) (more : List (List ℕ)) (a : A) → among good bad (form ∷ []) word more ≡ good a → P a
    unfolding among
    made-among word more a = go (same word form.word)
      where
        go : (t : Bool) → cond t (in_form good bad form more) (bad UnknownWord) ≡ good a → P a
        go true h = made_in more a h
        go false h = absurd (apart UnknownWord a h)

    made-said : (line : List ℕ) (a : A) → said good bad (form ∷ []) line ≡ good a → P a
    unfolding said
    made-said line a = go (ltb longest_line (length line)) (fields line)
      where
        go : (t : Bool) (parts : List (List ℕ)) → cond t (bad LineTooLong) (said_in good bad (form ∷ []) parts) ≡ good a → P a
        go true parts h = absurd (apart LineTooLong a h)
        go false [] h = absurd (apart UnknownWord a h)
        go false (word ∷ more) h = made-among word more a h

-- A line that is read as an event is the line of the event.
event-apart : (r : Refusal) (e : Event) → ◌≡◌ {A = Result Event Refusal} (Err r) (Ok e) → ⊥
event-apart r e h = let z : ◌≡◌ {A = ℕ} 0 1 = cc in omega arith

event-exact : (d e : Event) → ◌≡◌ {A = Result Event Refusal} (Ok d) (Ok e) → d ≡ e
event-exact d e h = cc

event-texts : Each (Agrees event_text) events
unfolding action_text event_text
event-texts =
    (λ n. refl) and (λ n. refl) and (λ n. refl) and (λ n. refl) and (λ n. refl) and (λ n. refl) and (λ n. refl)
    and (λ n. refl) and (λ n. refl) and (λ n. refl) and (λ n. refl) and (λ n. refl) and (λ n. refl)
    and (λ n. refl) and (λ n. refl) and (λ n. refl) and (λ n. refl) and (λ n. refl) and (λ n. refl) and (λ n. refl)
    and (λ n. refl) and done

pub one-event-line : (line : List ℕ) (e : Event) → line_event line ≡ Ok e → line ≡ event_line e
unfolding line_event event_line
one-event-line line e h = one-said Ok Err event_text event-apart event-exact events line e event-texts h

-- A line that is read as a first line is one of the two lines of what it says: with a seventh field, or without one, where SMEP is
-- not available.
first-apart : (r : Refusal) (first : FirstLine) → ◌≡◌ {A = Result FirstLine Refusal} (Err r) (Ok first) → ⊥
first-apart r first h = let z : ◌≡◌ {A = ℕ} 0 1 = cc in omega arith

first-exact : (first other : FirstLine) → ◌≡◌ {A = Result FirstLine Refusal} (Ok first) (Ok other) → first ≡ other
first-exact first other h = cc

first-texts : Each (Agrees first_text) (vsm ∷ [])
unfolding first_text
first-texts = (λ n. refl) and done

short-first-texts : Each (Agrees short_first_text) (vsm_short ∷ [])
unfolding short_first_text
short-first-texts = (λ n. refl) and done

pub one-full-first-line : (line : List ℕ) (first : FirstLine) → said Ok Err (vsm ∷ []) line ≡ Ok first
    → line ≡ first_line_of first
unfolding first_line_of
one-full-first-line line first h = one-said Ok Err first_text first-apart first-exact (vsm ∷ []) line first first-texts h

pub one-first-line : (line : List ℕ) (first : FirstLine) → line_first line ≡ Ok first
    → (line ≡ first_line_of first) ⊎ ((line ≡ short_first_line_of first) × (first.smep ≡ 0))
unfolding line_first first_line_of short_first_line_of
one-first-line line first = go (eqb (length (fields line)) 7)
  where
    go : (seventh : Bool) → said Ok Err (first_form seventh ∷ []) line ≡ Ok first
        → (line ≡ first_line_of first) ⊎ ((line ≡ short_first_line_of first) × (first.smep ≡ 0))
    go true h = inl (one-full-first-line line first h)
    go false h =
        inr (
          one-said Ok Err short_first_text first-apart first-exact (vsm_short ∷ []) line first short-first-texts h,
          made-said Ok Err short_first_text first-apart first-exact vsm_short (λ f. f.smep ≡ 0) (λ n. refl) line first h,
        )
