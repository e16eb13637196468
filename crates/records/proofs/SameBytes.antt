-- The theorems of Passing.antt on bytes: no record has a line feed in it, so the lines of a state's text are its records. Assumes nothing.
use mathlib.Core.Path.{◌≡◌, refl, sym, ap, ◌∙◌}
use mathlib.Core.Bool.{Bool, true, not, ◌&&◌}
use mathlib.Core.List.{List, [], ◌∷◌, ◌++◌, map, append-nil, append_assoc}
use Prim.Native.Nat.{ℕ}
use native.Mathlib.Omega.{arith}
use lib.Dec.{eqb}
use borrow.Author.Tests.{ne_eqb, not-true}
use Rattle.decimal.proofs.Digits.{text-digits}
use Rattle.decimal.specs.Write.{OnlyDigits, decimal}
use Rattle.model.proofs.Bools.{and_left, and_right}
use Rattle.model.specs.declared.machine.FirstLine.{FirstLine}
use Rattle.model.specs.State.{State}
use Rattle.script.specs.LineForms.{tab}
use Rattle.script.specs.ListingLine.{cell, line_feed}
use Rattle.script.specs.Records.{lines, lines_in}
use Rattle.script.specs.Texts.{parted, first_text, first_line_of, written}
use Rattle.records.specs.Places.{Place, PartitionEnabled, Mbec, Config, Active, Shared, Register, Tpr, Pending, Enabled, Secure, Reason, From, Rax, Rcx, Word, Mask, Intercepts, Cr0Mask, Cr4Mask, places}
use Rattle.records.specs.RecordClaims.{OnlyRecords, ReadBack, SameBytes}
use Rattle.records.specs.Reading.{passed_on}
use Rattle.records.specs.RecordTexts.{head_of, closed, front, record_line, first_of, lines_at, record_lines, ended, records_text}
use Rattle.records.specs.Values.{setup_at, value_at}
use Rattle.records.proofs.ReadingBack.{passed-back, passed-only, same_lines, equal-lines}

-- No byte is a line feed.
abbrev pub no_feed : List ℕ → Bool
no_feed [] = true
no_feed (byte ∷ bytes) = not (eqb byte line_feed) && no_feed bytes

pub no-feed-append : (a b : List ℕ) → no_feed a ≡ true → no_feed b ≡ true → no_feed (a ++ b) ≡ true
no-feed-append [] b h k = k
no-feed-append (x ∷ a) b h k = rw (and_left (not (eqb x line_feed)) (no_feed a) h) (no-feed-append a b (and_right (not (eqb x line_feed)) (no_feed a) h) k)

pub digits-no-feed : (field : List ℕ) → OnlyDigits field → no_feed field ≡ true
digits-no-feed [] h = refl
digits-no-feed (byte ∷ field) (low, high, more) = rw (ne_eqb byte line_feed (λ e. omega arith)) (digits-no-feed field more)

numbers-no-feed : (numbers : List ℕ) → no_feed (parted (map decimal numbers)) ≡ true
unfolding parted
numbers-no-feed [] = refl
numbers-no-feed (n ∷ numbers) =
    no-feed-append (tab ∷ decimal n) (parted (map decimal numbers)) (digits-no-feed (decimal n) (text-digits n)) (numbers-no-feed numbers)

word-no-feed : (p : Place) → no_feed (head_of p).word ≡ true
unfolding head_of
word-no-feed (PartitionEnabled t) = refl
word-no-feed (Mbec t) = refl
word-no-feed (Config t) = refl
word-no-feed (Active v) = refl
word-no-feed (Shared v r) = refl
word-no-feed (Register v l r) = refl
word-no-feed (Tpr v l) = refl
word-no-feed (Pending v l i) = refl
word-no-feed (Enabled v l) = refl
word-no-feed (Secure v l k) = refl
word-no-feed (Reason v l) = refl
word-no-feed (From v l) = refl
word-no-feed (Rax v l) = refl
word-no-feed (Rcx v l) = refl
word-no-feed (Word p) = refl
word-no-feed (Mask p t) = refl
word-no-feed (Intercepts v l) = refl
word-no-feed (Cr0Mask v l) = refl
word-no-feed (Cr4Mask v l) = refl

closed-no-feed : (numbers : List ℕ) → no_feed (closed numbers) ≡ true
unfolding closed cell
closed-no-feed [] = refl
closed-no-feed (n ∷ numbers) =
    no-feed-append (decimal n ++ tab ∷ []) (closed numbers) (no-feed-append (decimal n) (tab ∷ []) (digits-no-feed (decimal n) (text-digits n)) refl)
    (closed-no-feed numbers)

record-no-feed : (p : Place) (x : ℕ) → no_feed (record_line p x) ≡ true
unfolding record_line front
record-no-feed p x =
    no-feed-append ((head_of p).word ++ tab ∷ closed (head_of p).indices) (decimal x)
    (no-feed-append (head_of p).word (tab ∷ closed (head_of p).indices) (word-no-feed p) (closed-no-feed (head_of p).indices))
    (digits-no-feed (decimal x) (text-digits x))

first-no-feed : (f : FirstLine) → no_feed (first_line_of f) ≡ true
unfolding first_line_of first_text written
first-no-feed f = no-feed-append (first_text f).form.word (parted (map decimal (first_text f).numbers)) refl (numbers-no-feed (first_text f).numbers)

-- A line and its line feed in front of bytes.
line-ended : (line bytes : List ℕ) → no_feed line ≡ true
    → lines_in (line ++ line_feed ∷ bytes) ≡ record { complete = line ∷ (lines_in bytes).complete; rest = (lines_in bytes).rest }
unfolding lines_in
line-ended [] bytes h = refl
line-ended (byte ∷ line) bytes h =
    rw (not-true (eqb byte line_feed) (and_left (not (eqb byte line_feed)) (no_feed line) h), line-ended line bytes (and_right (not (eqb byte line_feed)) (no_feed line) h))

abbrev pub NoFeeds : List (List ℕ) → Type 0
NoFeeds [] = Unit {0}
NoFeeds (line ∷ more) = (no_feed line ≡ true) × NoFeeds more

-- The lines of lines with their line feeds, and of what follows them.
pub lines-ended : (ls : List (List ℕ)) (bytes : List ℕ) → NoFeeds ls → lines (ended ls ++ bytes) ≡ ls ++ lines bytes
unfolding ended
lines-ended [] bytes h = refl
lines-ended (line ∷ more) bytes h = ap lines (append_assoc line (line_feed ∷ ended more) bytes) ∙ first ∙ ap (λ (l : List (List ℕ)). line ∷ l) (lines-ended more bytes h.1)
  where
    first : lines (line ++ line_feed ∷ (ended more ++ bytes)) ≡ line ∷ lines (ended more ++ bytes)
    first = unfold lines in (rw (line-ended line (ended more ++ bytes) h.0))

records-no-feed : (s : State) → NoFeeds (record_lines s)
unfolding record_lines
records-no-feed s = (first-no-feed (first_of (setup_at s)), go (places (setup_at s)))
  where
    go : (ps : List Place) → NoFeeds (lines_at (value_at s) ps)
    go [] = tt
    go (p ∷ ps) = (record-no-feed p (value_at s p), go ps)

-- The lines of a state's text, and of what follows it.
pub text-lines : (s : State) (script : List ℕ) → lines (records_text s ++ script) ≡ record_lines s ++ lines script
unfolding records_text
text-lines s script = lines-ended (record_lines s) script (records-no-feed s)

-- Reading what was written gives the same state, and leaves the script that follows.
pub read_back : ReadBack
read_back s w sized script = ap passed_on (text-lines s script) ∙ passed-back s w sized (lines script)

-- Only the records of a well-formed state are accepted.
pub only-records : OnlyRecords
only-records text r h = passed-only (lines text) r h

-- Two well-formed states have the same bytes exactly when they are equal in all that is part of a state.
pub same_bytes : SameBytes
same_bytes s t w u k m = (
  λ e. same_lines s t w u k m (sym (own s) ∙ ap (λ (l : List ℕ). lines (l ++ [])) e ∙ own t),
  λ e. unfold records_text in (ap ended (equal-lines s t w u k m e)),
)
  where
    own : (s : State) → lines (records_text s ++ []) ≡ record_lines s
    own s = text-lines s [] ∙ unfold lines lines_in in append-nil (record_lines s)
