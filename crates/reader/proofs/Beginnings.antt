-- Laws of the bytes that a line must have before its number. Assumes nothing.
use Rattle.std.specs.Bool.{then_some}
use Rattle.std.specs.List.{starts_with}
use Rattle.std.specs.Prelude.{None, Option, Some}
use mathlib.Core.Bool.{Bool, true, false, cond, ◌&&◌}
use mathlib.Core.List.{List, [], ◌∷◌, ◌++◌, append_assoc, append-nil}
use mathlib.Core.Path.{◌≡◌, refl, sym, ◌∙◌}
use Prim.Native.Nat.{ℕ, zero, suc, ◌+◌, ◌/◌, ◌%◌, ◌≤◌, ◌<◌}
use native.Mathlib.Numerals.{add-one}
use native.Mathlib.Omega.{arith}
use lib.Dec.{eqb}
use lib.ListN.{drop, drop_of_length-le, get_or, length, take}
use lib.Seq.{drop-cons, take_all}
use borrow.Author.Tests.{eq-eqb, le-ltb, lt-ltb, ne_eqb}
use Rattle.decimal.specs.Read.{read_decimal}
use Rattle.decimal.specs.Write.{decimal, digits_before, digits_in}
use Rattle.records.specs.declared.place.Place.{Place}
use Rattle.records.specs.declared.place.Place.TheVariants.{PartitionEnabled, Mbec, Config, Active, Shared, Register, Tpr, Pending, Enabled, Secure, Reason, From, Rax, Rcx, Word, Mask, Intercepts, Cr0Mask, Cr4Mask}
use Rattle.records.specs.Reading.{number_after}
use Rattle.records.specs.RecordTexts.{closed, front, head_of}
use Rattle.records.proofs.ClosedNumbers.{closed_parts, closed-step}
use Rattle.script.specs.LineForms.{tab}
use Rattle.script.specs.ListingLine.{cell}
use Rattle.reader.specs.PastBytes.{After, TwoDigits}
use Rattle.reader.specs.Slots.{Room}

-- One byte: the line ends before it, has it, or has another.
module _ (line : List ℕ) (at byte : ℕ) where
  pub byte-none : length line ≤ at → After line at (byte ∷ []) None
  unfolding number_after
  byte-none h more = rw (drop_of_length-le line h)

  pub byte-here : at < length line → get_or line at 0 ≡ byte → After line at (byte ∷ []) (Some (at + 1))
  unfolding number_after
  byte-here h e = (λ more. rw (drop-cons line at 0 h, eq-eqb byte (get_or line at 0) (sym e), add-one at), omega arith)

  pub byte-other : at < length line → (get_or line at 0 ≡ byte → ⊥) → After line at (byte ∷ []) None
  unfolding number_after
  byte-other h e more = rw (drop-cons line at 0 h, ne_eqb byte (get_or line at 0) (λ k. e (sym k)))

-- Some bytes and then others.
module _ (line : List ℕ) (at : ℕ) (a b : List ℕ) where
  pub none_first : After line at a None → After line at (a ++ b) None
  none_first h more = rw (append_assoc a b more) (h (b ++ more))

  pub both : {mid : ℕ} (r : Option ℕ) → After line at a (Some mid) → After line mid b r → After line at (a ++ b) r
  both None (h, w) k = λ more. rw (append_assoc a b more) (h (b ++ more) ∙ k more)
  both (Some end) (h, w) (k, u) = (λ more. rw (append_assoc a b more) (h (b ++ more) ∙ k more), u)

-- The digits of an index.
one-digit : (n : ℕ) → n < 10 → decimal n ≡ (48 + n) ∷ []
unfolding digits_before digits_in
one-digit n h = let e : n % 10 ≡ n = omega arith in rw (lt-ltb n 10 h, e)

two_digits : (n : ℕ) → 10 ≤ n → n < 100 → decimal n ≡ (48 + n / 10) ∷ (48 + n % 10) ∷ []
unfolding digits_before digits_in
two_digits n l h = let e : n / 10 % 10 ≡ n / 10 = omega arith in rw (le-ltb n 10 l, lt-ltb (n / 10) 10 (omega arith), e)

pub cell-one : (n : ℕ) → n < 10 → cell n tab ≡ (48 + n) ∷ tab ∷ []
unfolding cell
cell-one n h = rw (one-digit n h)

pub cell-two : (n : ℕ) → 10 ≤ n → n < 100 → cell n tab ≡ (48 + n / 10) ∷ (48 + n % 10) ∷ tab ∷ []
unfolding cell
cell-two n l h = rw (two_digits n l h)

-- The line begins with a word, or it has other bytes there.
word-first : (word line more : List ℕ) → number_after (word ++ more) line ≡ cond (starts_with eqb line word) (number_after more (drop (length word) line)) None
unfolding number_after
word-first [] line more = refl
word-first (a ∷ word) [] more = refl
word-first (a ∷ word) (b ∷ line) more = go (eqb a b) (word-first word line more)
  where
    go : (t : Bool) → number_after (word ++ more) line ≡ cond (starts_with eqb line word) (number_after more (drop (length word) line)) None
        → cond t (number_after (word ++ more) line) None ≡ cond (t && starts_with eqb line word) (number_after more (drop (length word) line)) None
    go true e = e
    go false e = refl

pub word-begins : (line word : List ℕ) (b : Bool) → b ≡ starts_with eqb line word → (b ≡ true → length word ≤ length line)
    → After line 0 word (then_some b (length word))
word-begins line word true e w = (λ more. word-first word line more ∙ rw (← e), w refl)
word-begins line word false e w = λ more. word-first word line more ∙ rw (← e)

-- Indices one after the other.
pub two-digits-at : (numbers : List ℕ) (i : ℕ) → TwoDigits numbers → i < length numbers → get_or numbers i 0 < 100
two-digits-at [] i t h = absurd (omega arith)
two-digits-at (n ∷ numbers) zero t h = t.0
two-digits-at (n ∷ numbers) (suc i) t h = two-digits-at numbers i t.1 (omega arith)

module _ (line : List ℕ) (at : ℕ) (numbers : List ℕ) where
  -- The line has the first i of them, up to `end`.
  abbrev pub Behind : ℕ → ℕ → Type 0
  Behind i end = (i ≤ length numbers) × After line at (closed (take i numbers)) (Some end)

  pub behind-start : at ≤ length line → Behind 0 at
  unfolding closed
  behind-start h = (omega arith, (λ more. refl, h))

  module _ {i end : ℕ} (w : Behind i end) (h : i < length numbers) where
    pub behind-next : {next : ℕ} → After line end (cell (get_or numbers i 0) tab) (Some next) → Behind (i + 1) next
    behind-next {next} k =
        (omega arith, rw (closed-step numbers i h) at (both line at (closed (take i numbers)) (cell (get_or numbers i 0) tab) (Some next) w.1 k))

    pub behind-other : After line end (cell (get_or numbers i 0) tab) None → After line at (closed numbers) None
    behind-other k =
        rw (closed_parts numbers (i + 1)) at
        (none_first line at (closed (take (i + 1) numbers)) (closed (drop (i + 1) numbers))
        (rw (closed-step numbers i h) at (both line at (closed (take i numbers)) (cell (get_or numbers i 0) tab) None w.1 k)))

  pub behind-all : {i end : ℕ} → Behind i end → length numbers ≤ i → After line at (closed numbers) (Some end)
  behind-all {i} w h = rw (take_all i numbers h) at w.1

-- The indices of a place that the arrays have room for.
pub room-digits : (p : Place) → Room p → TwoDigits (head_of p).indices
unfolding Room head_of
room-digits (PartitionEnabled t) h = (omega arith, tt)
room-digits (Mbec t) h = (omega arith, tt)
room-digits (Config t) h = (omega arith, tt)
room-digits (Active v) h = (omega arith, tt)
room-digits (Shared v r) h = (omega arith, (omega arith, tt))
room-digits (Register v l r) h = (omega arith, (omega arith, (omega arith, tt)))
room-digits (Tpr v l) h = (omega arith, (omega arith, tt))
room-digits (Pending v l i) h = (omega arith, (omega arith, (omega arith, tt)))
room-digits (Enabled v l) h = (omega arith, (omega arith, tt))
room-digits (Secure v l k) h = (omega arith, (omega arith, (omega arith, tt)))
room-digits (Reason v l) h = (omega arith, (omega arith, tt))
room-digits (From v l) h = (omega arith, (omega arith, tt))
room-digits (Rax v l) h = (omega arith, (omega arith, tt))
room-digits (Rcx v l) h = (omega arith, (omega arith, tt))
room-digits (Word p) h = (omega arith, tt)
room-digits (Mask p t) h = (omega arith, (omega arith, tt))
room-digits (Intercepts v l) h = (omega arith, (omega arith, tt))
room-digits (Cr0Mask v l) h = (omega arith, (omega arith, (omega arith, tt)))
room-digits (Cr4Mask v l) h = (omega arith, (omega arith, (omega arith, tt)))

-- The number behind the front of a record.
pub no_front : (line : List ℕ) (p : Place) → After line 0 (front p) None → number_after (front p) line ≡ None
no_front line p h = rw (append-nil (front p)) at (h [])

pub behind-front : (line : List ℕ) (p : Place) (end : ℕ) → After line 0 (front p) (Some end) → number_after (front p) line ≡ read_decimal (drop end line)
unfolding number_after
behind-front line p end h = rw (append-nil (front p)) at (h.0 [])
