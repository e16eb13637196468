-- A line of a script (01, "Script and listing"): its fields, the numbers that they say, and what a line of a known form says.
-- A line is a list of bytes without its line feed. Assumes nothing.
use Rattle.std.specs.Prelude.{cond, List, [], ◌∷◌, ℕ, zero, suc, eqb, ltb, get_or, length, None, Option, Some}
use Rattle.decimal.specs.Read.{read_decimal}
pub use Rattle.model.specs.declared.answer.Refusal.{Refusal}
pub use Rattle.model.specs.declared.answer.Refusal.TheVariants.{LineTooLong, UnknownWord, WrongFieldCount, NotANumber}
use Rattle.script.specs.Bytes.{same}

-- Fields are parted by tabs.
abbrev pub tab : ℕ
tab = 9

-- A byte in front of the first field.
abbrev pub in_front : ℕ → List (List ℕ) → List (List ℕ)
in_front byte [] = (byte ∷ []) ∷ []
in_front byte (field ∷ more) = (byte ∷ field) ∷ more

-- The fields of a line, from tab to tab: one more than it has tabs.
unfoldable pub fields : List ℕ → List (List ℕ)
fields [] = [] ∷ []
fields (byte ∷ line) = cond (eqb byte tab) ([] ∷ fields line) (in_front byte (fields line))

-- A number in front of other numbers, where each of them is one.
abbrev pub followed_by : Option ℕ → Option (List ℕ) → Option (List ℕ)
followed_by None more = None
followed_by (Some n) None = None
followed_by (Some n) (Some numbers) = Some (n ∷ numbers)

-- Numbers are decimal: the numbers that fields say, or none where a field says no number.
unfoldable pub numbers_in : List (List ℕ) → Option (List ℕ)
numbers_in [] = Some []
numbers_in (field ∷ more) = followed_by (read_decimal field) (numbers_in more)

-- What takes n numbers.
abbrev pub From : ℕ → Type 0 → Type 0
From zero A = A
From (suc n) A = ℕ → From n A

-- What is made from the numbers of a list, from a place on.
abbrev pub made : {A : Type 0} (n : ℕ) → From n A → ℕ → List ℕ → A
made zero value place numbers = value
made (suc n) value place numbers = made n (value (get_or numbers place 0)) (suc place) numbers

-- A form of a line: its word, how many fields follow, and what their numbers make.
pub record Form (A : Type 0) : Type 0 where
  pub word : List ℕ
  pub count : ℕ
  pub value : From count A

-- One record a line, at most 256 bytes without the line feed.
abbrev pub longest_line : ℕ
longest_line = 256

-- What a line says that is to have one of some forms: `good` of what its numbers make, or `bad` of why it says nothing. Of several
-- reasons the first is given: it is too long, its first field is no word, it has another number of fields, a field is no number.
module _ {A R : Type 0} (good : A → R) (bad : Refusal → R) where
  -- What as many numbers as a form takes say.
  abbrev pub of_numbers : Form A → Option (List ℕ) → R
  of_numbers form None = bad NotANumber
  of_numbers form (Some numbers) = good (made form.count form.value 0 numbers)

  -- What the fields after the word say, in a form.
  abbrev pub in_form : Form A → List (List ℕ) → R
  in_form form more = cond (eqb (length more) form.count) (of_numbers form (numbers_in more)) (bad WrongFieldCount)

  -- What they say in the form that has the word.
  unfoldable pub among : List (Form A) → List ℕ → List (List ℕ) → R
  among [] word more = bad UnknownWord
  among (form ∷ forms) word more = cond (same word form.word) (in_form form more) (among forms word more)

  -- The first field of a line is its word.
  abbrev pub said_in : List (Form A) → List (List ℕ) → R
  said_in forms [] = bad UnknownWord
  said_in forms (word ∷ more) = among forms word more

  unfoldable pub said : List (Form A) → List ℕ → R
  said forms line = cond (ltb longest_line (length line)) (bad LineTooLong) (said_in forms (fields line))
