-- The parts before any quantity is stored stand for no quantity. Assumes nothing.
use mathlib.Core.Bool.{Bool, true, false, cond, ◌&&◌}
use mathlib.Core.List.{[]}
use mathlib.Core.Path.{◌≡◌, refl, sym, ap, ◌∙◌}
use Prim.Native.Nat.{ℕ, ◌+◌, ◌*◌, ◌<◌}
use native.Mathlib.Omega.{arith}
use lib.Dec.{ltb}
use lib.ListN.{get_or, get_or-replicate, length, replicate}
use lib.Seq.{get_or-set_other}
use borrow.Author.Tests.{lt-ltb}
use Rattle.word.specs.Field.{bit}
use Rattle.model.specs.declared.machine.Setup.{Setup}
use Rattle.model.proofs.Four.{below-four}
use Rattle.processor.specs.Record.{record_words}
use Rattle.script.specs.EventForms.{processor}
use Rattle.records.specs.declared.place.Place.{Place}
use Rattle.records.specs.declared.place.Place.TheVariants.{PartitionEnabled, Mbec, Config, Active, Shared, Register, Tpr, Pending, Enabled, Secure, Reason, From, Rax, Rcx, Word, Mask, Intercepts, Cr0Mask, Cr4Mask}
use Rattle.records.specs.Places.{has, known}
use Rattle.records.specs.Reading.{only}
use Rattle.records.specs.Values.{number}
use Rattle.reader.specs.Received.{blank_parts, blank_record, blank_row}
use Rattle.reader.specs.Slots.{Room, kept_at, slot_of}
use Rattle.reader.proofs.Stands.{Stands}

number-low : (b : Bool) → number b < 16
number-low true = omega arith
number-low false = omega arith

number-first : (b : Bool) → number (bit (number b) 0) ≡ number b
number-first true = refl
number-first false = refl

number-high : (b : Bool) (l : ℕ) → l < 4 → 0 < l → number (bit (number b) l) ≡ 0
number-high true = below-four (λ l. 0 < l → number (bit 1 l) ≡ 0) (λ h. absurd (omega arith)) (λ h. refl) (λ h. refl) (λ h. refl)
number-high false = below-four (λ l. 0 < l → number (bit 0 l) ≡ 0) (λ h. refl) (λ h. refl) (λ h. refl) (λ h. refl)

and-true : (b : Bool) → b ≡ (b && true)
and-true true = refl
and-true false = refl

only_zero : (c : Setup) (q : Place) → only c (λ p. 0) q ≡ 0
unfolding only
only_zero c q = go (has c q)
  where
    go : (b : Bool) → ◌≡◌ {A = ℕ} (cond b 0 0) 0
    go true = refl
    go false = refl

record-zero : (b : Bool) (i : ℕ) → i < record_words → (i ≡ 1 → ⊥) → get_or (blank_record b) i 0 ≡ 0
record-zero b i h k = get_or-set_other (replicate record_words 0) 1 i (number b) 0 k ∙ get_or-replicate record_words i 0 0 h

module _ (c : Setup) where
  row_is : (v : ℕ) → v < 4 → get_or (blank_parts c).vps v [] ≡ blank_row c.processors v
  row_is = below-four (λ v. get_or (blank_parts c).vps v [] ≡ blank_row c.processors v) refl refl refl refl

  row_zero : (v i : ℕ) → v < 4 → i < record_words → (i ≡ 1 → ⊥) → get_or (get_or (blank_parts c).vps v []) i 0 ≡ 0
  row_zero v i h k n = rw (row_is v h) (record-zero (ltb v c.processors) i k n)

  blank-zero : (q : Place) → Room q → kept_at (blank_parts c) q ≡ 0
  unfolding slot_of Room
  blank-zero (PartitionEnabled t) h = number-high true t.0 h.1 h.0
  blank-zero (Mbec t) h = number-high false t.0 h.1 h.0
  blank-zero (Config t) h = below-four (λ t. get_or (blank_parts c).levels (2 + t) 0 ≡ 0) refl refl refl refl t.0 h
  blank-zero (Active v) h = row_zero v.0 0 h (omega arith) (λ e. omega arith)
  blank-zero (Shared v r) h = row_zero v.0 _ h.0 (omega arith) (λ e. omega arith)
  blank-zero (Register v l r) h = row_zero v.0 _ h.0 (omega arith) (λ e. omega arith)
  blank-zero (Tpr v l) h = row_zero v.0 _ h.0 (omega arith) (λ e. omega arith)
  blank-zero (Pending v l i) h = row_zero v.0 _ h.0 (omega arith) (λ e. omega arith)
  blank-zero (Enabled v l) h = rw (row_is v.0 h.0) (number-high (ltb v.0 c.processors) l.0 h.2 h.1)
  blank-zero (Secure v l k) h = row_zero v.0 _ h.0 (omega arith) (λ e. omega arith)
  blank-zero (Reason v l) h = row_zero v.0 _ h.0 (omega arith) (λ e. omega arith)
  blank-zero (From v l) h = row_zero v.0 _ h.0 (omega arith) (λ e. omega arith)
  blank-zero (Rax v l) h = row_zero v.0 _ h.0 (omega arith) (λ e. omega arith)
  blank-zero (Rcx v l) h = row_zero v.0 _ h.0 (omega arith) (λ e. omega arith)
  blank-zero (Intercepts v l) h = row_zero v.0 _ h.0 (omega arith) (λ e. omega arith)
  blank-zero (Cr0Mask v l) h = row_zero v.0 _ h.0 (omega arith) (λ e. omega arith)
  blank-zero (Cr4Mask v l) h = row_zero v.0 _ h.0 (omega arith) (λ e. omega arith)
  blank-zero (Word p) h = get_or-replicate 64 p.0 0 0 h
  blank-zero (Mask p t) h = get_or-replicate 256 (4 * p.0 + t.0) 0 0 (omega arith)

  known_is : (v : ℕ) → v < 4 → ltb v c.processors ≡ known c (processor v)
  known_is v h = rw (lt-ltb v 4 h) (and-true (ltb v c.processors))

  pub stands-blank : Stands c (blank_parts c) (λ p. 0)
  stands-blank = record {
    sizes = record { levels = refl; masks = refl; words = refl; vps = refl; row = below-four (λ v. length (get_or (blank_parts c).vps v []) ≡ record_words) refl refl refl refl };
    low-enabled = omega arith;
    low-mbec = omega arith;
    low-on = λ v h. rw (row_is v h) (number-low (ltb v c.processors));
    zero-enabled = refl;
    zero-mbec = refl;
    zero-on = λ v h. rw (row_is v h) (number-first (ltb v c.processors) ∙ ap number (known_is v h));
    kept = λ q h. blank-zero q h ∙ sym (only_zero c q);
  }
