-- Laws of the word that a line begins with: how it is compared, and that it decides what the line says.
-- Assumes nothing.
use Rattle.std.specs.Prelude.{Err, Ok, Result, None, Some, Option}
use Rattle.std.specs.Str.{bytes_eq}
use Rattle.std.specs.Option.{MatchOption, option_or}
use Prim.Native.Nat.{ℕ, zero, suc, ◌≤◌, ◌<◌}
use mathlib.Core.Bool.{Bool, true, false, not, cond, ◌&&◌}
use mathlib.Core.List.{List, [], ◌∷◌, ◌++◌, map}
use mathlib.Core.Path.{◌≡◌, refl, sym, ap, ◌∙◌}
use borrow.Author.Tests.{eq-eqb, eqb-true, eqb-false, leb-true, le-ltb, lt-ltb, ltb-false, ltb-true, ne_eqb}
use native.Mathlib.Omega.{arith}
use lib.Dec.{eqb, leb, ltb}
use lib.ListN.{drop, get_or, length, take}
use lib.Seq.{length-take-le}
use Rattle.decimal.proofs.DigitReading.{and_parts}
use Rattle.model.specs.declared.answer.Refusal.{Refusal}
use Rattle.model.specs.declared.answer.Refusal.TheVariants.{LineTooLong, UnknownWord}
use Rattle.script.specs.Bytes.{begun, same}
use Rattle.script.specs.LineForms.{Form, among, in_form, longest_line, said, tab}
use Rattle.script.specs.NumberRows.{fields_after, until_tab}
use Rattle.script.specs.Search.{until_byte}
use Rattle.script.specs.EventWords.{form_of, named_among, naming}
use Rattle.script.specs.declared.words.Named.{Named}
use Rattle.script.specs.declared.words.Word.{Word}
use Rattle.script.proofs.FieldPlaces.{fields-first, until-within}
use Rattle.script.proofs.Same.{differ, every, same_true}
use Rattle.model.specs.declared.event.Event.{Event}

neither : (t : Bool) → (t && false) ≡ false
neither true = refl
neither false = refl

-- A line that is shorter than the word does not begin with it.
pub too_short : (line word : List ℕ) → length line < length word → begun line word ≡ false
unfolding begun
too_short [] [] h = absurd (omega arith)
too_short [] (a ∷ word) h = refl
too_short (b ∷ line) [] h = absurd (omega arith)
too_short (b ∷ line) (a ∷ word) h = rw (too_short line word (omega arith)) (neither (eqb b a))

-- The word is taken off the line.
pub begun-stripped : (line word : List ℕ) → begun line word ≡ (bytes_eq (take (length word) line) word && begun (drop (length word) line) [])
unfolding begun
begun-stripped [] [] = refl
begun-stripped [] (a ∷ word) = refl
begun-stripped (b ∷ line) [] = refl
begun-stripped (b ∷ line) (a ∷ word) = go (eqb b a) (begun-stripped line word)
  where
    go : (t : Bool) → begun line word ≡ (bytes_eq (take (length word) line) word && begun (drop (length word) line) [])
        → (t && begun line word) ≡ ((t && bytes_eq (take (length word) line) word) && begun (drop (length word) line) [])
    go true h = h
    go false h = refl

pub not-stripped : (line word : List ℕ) → bytes_eq (take (length word) line) word ≡ false → false ≡ begun line word
not-stripped line word h = sym (begun-stripped line word ∙ ap (λ t. t && begun (drop (length word) line) []) h)

-- A tab or the end of the line has to be what is left.
module _ (line word rest : List ℕ) (h : bytes_eq (take (length word) line) word ≡ true) (e : rest ≡ drop (length word) line) where
  stripped : begun rest [] ≡ begun line word
  stripped = ap (λ (l : List ℕ). begun l []) e ∙ sym (begun-stripped line word ∙ ap (λ t. t && begun (drop (length word) line) []) h)

  pub line-closed : length rest < 1 → true ≡ begun line word
  unfolding begun
  line-closed l = empty rest l ∙ stripped
    where
      empty : (rest : List ℕ) → length rest < 1 → true ≡ begun rest []
      empty [] l = refl
      empty (b ∷ rest) l = absurd (omega arith)

  pub word-closed : 1 ≤ length rest → eqb (get_or rest 0 0) tab ≡ begun line word
  unfolding begun
  word-closed l = first rest l ∙ stripped
    where
      first : (rest : List ℕ) → 1 ≤ length rest → eqb (get_or rest 0 0) tab ≡ begun rest []
      first [] l = absurd (omega arith)
      first (b ∷ rest) l = refl

-- A word that has no tab.
abbrev pub no_tab : List ℕ → Bool
no_tab [] = true
no_tab (byte ∷ word) = not (eqb byte tab) && no_tab word

-- A line begins with a word where its first field is the word, and then it is as long at least.
pub begun-same : (line word : List ℕ) → no_tab word ≡ true → begun line word ≡ same (take (until_tab line) line) word
unfolding begun same until_byte
begun-same [] [] h = refl
begun-same [] (a ∷ word) h = refl
begun-same (b ∷ line) [] h = go (eqb b tab)
  where
    go : (t : Bool) → t ≡ same (take (cond t 0 (suc (until_tab line))) (b ∷ line)) []
    go true = refl
    go false = refl
begun-same (b ∷ line) (a ∷ word) h =
    let (plain, rest) = and_parts (not (eqb a tab)) (no_tab word) h in
    go (eqb b tab) refl plain (begun-same line word rest)
  where
    other : not (eqb a tab) ≡ true → eqb b tab ≡ true → eqb b a ≡ false
    other plain tabbed = ne_eqb b a (λ e. differ (rw (eq-eqb a tab (sym e ∙ eqb-true b tab tabbed)) at plain))

    go : (t : Bool) → eqb b tab ≡ t → not (eqb a tab) ≡ true → begun line word ≡ same (take (until_tab line) line) word
        → (eqb b a && begun line word) ≡ same (take (cond t 0 (suc (until_tab line))) (b ∷ line)) (a ∷ word)
    go true s plain ih = rw (other plain s)
    go false s plain ih = rw ih

pub begun-within : (line word : List ℕ) → begun line word ≡ true → length word ≤ length line
begun-within line word e = ≤-of (ltb (length line) (length word)) refl
  where
    ≤-of : (t : Bool) → ltb (length line) (length word) ≡ t → length word ≤ length line
    ≤-of true s = differ (sym (too_short line word (ltb-true (length line) (length word) s)) ∙ e)
    ≤-of false s = ltb-false (length line) (length word) s

-- What a line says that is to have one of some forms, by the word that it begins with.
module _ {A R : Type 0} (good : A → R) (bad : Refusal → R) where
  unfoldable pub form_among : List (Form A) → List ℕ → R
  form_among [] line = bad UnknownWord
  form_among (form ∷ forms) line =
      cond (begun line form.word) (in_form good bad form (fields_after line (length form.word))) (form_among forms line)

  -- A word has no tab.
  abbrev pub sound : Form A → Bool
  sound form = no_tab form.word

  said-begun : (forms : List (Form A)) (line : List ℕ) → every sound forms ≡ true
      → among good bad forms (take (until_tab line) line) (fields_after line (until_tab line)) ≡ form_among forms line
  unfolding among form_among
  said-begun [] line h = refl
  said-begun (form ∷ forms) line h =
      let (here, later) = and_parts (sound form) (every sound forms) h in
      rw (begun-same line form.word here) (go (same (take (until_tab line) line) form.word) refl (said-begun forms line later))
    where
      go : (t : Bool) → same (take (until_tab line) line) form.word ≡ t
          → among good bad forms (take (until_tab line) line) (fields_after line (until_tab line)) ≡ form_among forms line
          → cond t (in_form good bad form (fields_after line (until_tab line))) (among good bad forms (take (until_tab line) line) (fields_after line (until_tab line)))
          ≡ cond t (in_form good bad form (fields_after line (length form.word))) (form_among forms line)
      go true e ih =
          let size : until_tab line ≡ length form.word =
          sym (length-take-le (until_tab line) line (until-within tab line)) ∙ ap length (same_true _ _ e) in
          rw size
      go false e ih = ih

  -- A line of at most 256 bytes.
  pub line-said : (forms : List (Form A)) (line : List ℕ) → every sound forms ≡ true → length line ≤ longest_line → said good bad forms line ≡ form_among forms line
  unfolding said
  line-said forms line h short = rw (le-ltb longest_line (length line) short, fields-first line) (said-begun forms line h)

  -- A longer one.
  pub too_long : (forms : List (Form A)) (line : List ℕ) → longest_line < length line → bad LineTooLong ≡ said good bad forms line
  unfolding said
  too_long forms line h = rw (lt-ltb longest_line (length line) h)

-- What a line says that begins with an event word, or with none.
abbrev pub named_said : Option Named → List ℕ → Result Event Refusal
named_said None line = Err UnknownWord
named_said (Some n) line = in_form Ok Err (form_of n.word) (fields_after line (length (form_of n.word).word))

pub named-said : (some_words : List Word) (line : List ℕ)
    → form_among Ok Err (map form_of some_words) line ≡ named_said (named_among some_words line) line
unfolding form_among
named-said [] line = refl
named-said (word ∷ words) line = go (begun line (form_of word).word) (named-said words line)
  where
    go : (t : Bool) → form_among Ok Err (map form_of words) line ≡ named_said (named_among words line) line
        → cond t (named_said (naming word) line) (form_among Ok Err (map form_of words) line)
        ≡ named_said (cond t (naming word) (named_among words line)) line
    go true ih = refl
    go false ih = ih

-- What `or_else` gives, where the other is looked for only if the first is none.
pub or_cases : (first found other : Option Named) {P : Type 0} → MatchOption first P (λ n. found ≡ Some n) → (P → found ≡ other) → found ≡ option_or first other
or_cases None found other h f = f h
or_cases (Some n) found other h f = h

-- The word among some words, or else among others.
pub or-among : (first others : List Word) (line : List ℕ) → option_or (named_among first line) (named_among others line) ≡ named_among (first ++ others) line
or-among [] others line = refl
or-among (word ∷ first) others line = go (begun line (form_of word).word) (or-among first others line)
  where
    go : (t : Bool) → option_or (named_among first line) (named_among others line) ≡ named_among (first ++ others) line
        → option_or (cond t (naming word) (named_among first line)) (named_among others line) ≡ cond t (naming word) (named_among (first ++ others) line)
    go true h = refl
    go false h = h

-- The words that begin with a byte.
unfoldable pub with_first : ℕ → List Word → List Word
with_first byte [] = []
with_first byte (word ∷ more) = cond (eqb (get_or (form_of word).word 0 0) byte) (word ∷ with_first byte more) (with_first byte more)

-- A word that has another byte than the line at some place, and its first byte above all.
pub other_at : (line word : List ℕ) (i : ℕ) → i < length word → (get_or word i 0 ≡ get_or line i 0 → ⊥) → begun line word ≡ false
unfolding begun
other_at [] [] i h d = absurd (omega arith)
other_at [] (a ∷ word) i h d = refl
other_at (b ∷ line) [] i h d = absurd (omega arith)
other_at (b ∷ line) (a ∷ word) zero h d = rw (ne_eqb b a (λ e. d (sym e)))
other_at (b ∷ line) (a ∷ word) (suc i) h d = rw (other_at line word i (omega arith) d) (neither (eqb b a))

other-first : (line word : List ℕ) → 0 < length word → (get_or word 0 0 ≡ get_or line 0 0 → ⊥) → begun line word ≡ false
other-first line word h d = other_at line word 0 h d

-- Only words that begin with the line's first byte come into question.
abbrev pub has_byte : Word → Bool
has_byte word = ltb 0 (length (form_of word).word)

pub by_first : (some_words : List Word) (line : List ℕ) (byte : ℕ) → every has_byte some_words ≡ true → get_or line 0 0 ≡ byte
    → named_among (with_first byte some_words) line ≡ named_among some_words line
unfolding with_first
by_first [] line byte h e = refl
by_first (word ∷ words) line byte h e =
    let (here, more) = and_parts (has_byte word) (every has_byte words) h in
    go (eqb (get_or (form_of word).word 0 0) byte) refl here (by_first words line byte more e)
  where
    go : (t : Bool) → eqb (get_or (form_of word).word 0 0) byte ≡ t → has_byte word ≡ true
        → named_among (with_first byte words) line ≡ named_among words line
        → named_among (cond t (word ∷ with_first byte words) (with_first byte words)) line
        ≡ cond (begun line (form_of word).word) (naming word) (named_among words line)
    go true s k ih = rw ih
    go false s k ih =
        rw (other-first line (form_of word).word (ltb-true 0 (length (form_of word).word) k) (λ d. eqb-false _ _ s (d ∙ e))) ih

-- An empty line begins with no word.
pub none-empty : (some_words : List Word) (line : List ℕ) → every has_byte some_words ≡ true → length line ≡ 0 → None ≡ named_among some_words line
none-empty [] line h e = refl
none-empty (word ∷ words) line h e =
    let (here, more) = and_parts (has_byte word) (every has_byte words) h in
    rw (too_short line (form_of word).word (omega (arith, ltb-true 0 (length (form_of word).word) here))) (none-empty words line more e)

-- A line whose first byte no word has begins with none.
infixr 20 ◌and◌
pub data NoneFirst (byte : ℕ) : List Word → Type 0 where
  done : NoneFirst byte []
  ◌and◌ : {word : Word} {more : List Word} → (byte ≡ get_or (form_of word).word 0 0 → ⊥) → NoneFirst byte more → NoneFirst byte (word ∷ more)

pub none_first : (some_words : List Word) (line : List ℕ) → every has_byte some_words ≡ true → NoneFirst (get_or line 0 0) some_words
    → None ≡ named_among some_words line
none_first [] line h done = refl
none_first (word ∷ words) line h (here and later) =
    let (has, more) = and_parts (has_byte word) (every has_byte words) h in
    rw (other-first line (form_of word).word (ltb-true 0 (length (form_of word).word) has) (λ e. here (sym e))) (none_first words line more later)

-- What is known of the word that a line was found to begin with: no event takes more than seven numbers.
pub record Found (line : List ℕ) (word : Word) (end takes : ℕ) : Type 0 where
  pub ends : end ≡ length (form_of word).word
  pub counts : takes ≡ (form_of word).count
  pub within : length (form_of word).word ≤ length line
  pub few : (form_of word).count ≤ 7

abbrev pub few_numbers : Word → Bool
few_numbers word = leb (form_of word).count 7

pub found : (some_words : List Word) (line : List ℕ) {n : Named} → every few_numbers some_words ≡ true
    → named_among some_words line ≡ Some n → Found line n.word n.end n.takes
found [] line h e = absurd (let z : ◌≡◌ {A = ℕ} 0 1 = cc in omega arith)
found (first ∷ words) line {n} h e =
    let (here, more) = and_parts (few_numbers first) (every few_numbers words) h in
    go (begun line (form_of first).word) refl (leb-true (form_of first).count 7 here) (λ d. found words line more d) e
  where
    go : (t : Bool) → begun line (form_of first).word ≡ t → (form_of first).count ≤ 7
        → (named_among words line ≡ Some n → Found line n.word n.end n.takes)
        → cond t (naming first) (named_among words line) ≡ Some n → Found line n.word n.end n.takes
    go true b few ih e =
        let same : ◌≡◌ {A = Named} (record { word = first; end = length (form_of first).word; takes = (form_of first).count }) n = cc in
        rw (← same) (record { ends = refl; counts = refl; within = begun-within line (form_of first).word b; few = few })
    go false b few ih e = ih e
