-- A chunk that is used piece by piece, and what is written of it. Assumes nothing.
use Rattle.std.proofs.Common.{◌≡◌, ℕ, ◌+◌, ◌-◌, ◌<◌, ◌≤◌, List, [], ◌++◌, length, take, sym, subst, ap, ◌∙◌, refl, append_assoc, append-nil, arith, length-append}
use Rattle.std.proofs.Math.Seq.{take-append_seam}
use Rattle.std.proofs.lemmas.List.{nil_from_length, take-append-drop}
use Rattle.std.specs.Prelude.{Option}
use Rattle.std.proofs.KnownBytes.{Appends-nil, Appends-trans}
use Rattle.std.specs.Io.KnownBytes.{Appends}
use borrow.Rule.Slice.PartMut.{mid_of}
use lib.Seq.{sets}
use Rattle.session.proofs.Callers.{front, part-whole, reached-session, reached-start}
use Rattle.session.specs.Session.{Progress, consumed, progress_of}
use Rattle.session.specs.declared.Session.{Session}
use Rattle.shell.specs.Cutting.{progress-joins, reached-by}
use Rattle.shell.specs.Turns.{Stands}

-- Some of a chunk was used and the rest is left, what is told of it was written, and the session has come so far.
pub record Used (told : Progress → List ℕ → List ℕ) (p : Progress) (chunk rest : List ℕ) (q : Progress) (before after : Option (List ℕ)) : Type 0 where
  pub used : List ℕ
  pub parts : chunk ≡ used ++ rest
  pub progress : q ≡ (consumed p used).progress
  pub written : Appends before after (told p used)

pub used-start : (told : Progress → List ℕ → List ℕ) → ((p : Progress) → told p [] ≡ []) → (s : Session) (chunk : List ℕ) (before : Option (List ℕ))
    → Used told (progress_of s) chunk chunk (progress_of s) before before
used-start told nothing s chunk before = record {
  used = [];
  parts = refl;
  progress = reached-session s (reached-start (progress_of s));
  written = subst (λ (l : List ℕ). Appends before before l) (sym (nothing (progress_of s))) (Appends-nil before);
}

-- A piece more is used, and its text written.
pub used-more : {p q : Progress} {before after : Option (List ℕ)} (told : Progress → List ℕ → List ℕ)
    → ((p : Progress) (one two : List ℕ) → told p (one ++ two) ≡ told p one ++ told (consumed p one).progress two)
    → (chunk rest : List ℕ) (n : ℕ) (r : Progress) (then : Option (List ℕ)) → Used told p chunk rest q before after
    → r ≡ (consumed q (take n rest)).progress → Appends after then (told q (take n rest)) → Used told p chunk (mid_of n (length rest - n) rest) r before then
used-more {p} {q} {before} {after} told joins chunk rest n r then w reaches writes =
    let piece = take n rest in
    let text : told p w.used ++ told q piece ≡ told p (w.used ++ piece) =
    ap (λ (x : Progress). told p w.used ++ told x piece) w.progress ∙ sym (joins p w.used piece) in
    record {
      used = w.used ++ piece;
      parts =
          w.parts
          ∙ ap (λ (l : List ℕ). w.used ++ l) (sym (take-append-drop n rest) ∙ ap (λ (l : List ℕ). piece ++ l) (sym (part-whole rest n)))
          ∙ sym (append_assoc w.used piece (mid_of n (length rest - n) rest));
      progress = reaches ∙ ap (λ (x : Progress). (consumed x piece).progress) w.progress ∙ sym (progress-joins p w.used piece);
      written = subst (λ (l : List ℕ). Appends before then l) text (Appends-trans before after then (told p w.used) (told q piece) w.written writes);
    }

stands : {p q : Progress} (used : List ℕ) → q ≡ (consumed p used).progress → Stands p used q
stands used e = record { progress = e; reached = reached-by used e }

-- Where nothing is left, all was used, and all is written that is to be written of it.
all : {told : Progress → List ℕ → List ℕ} {p q : Progress} {before after : Option (List ℕ)} (chunk rest : List ℕ) (w : Used told p chunk rest q before after) → length rest ≡ 0
    → w.used ≡ chunk
all chunk rest w none = sym (w.parts ∙ ap (λ (l : List ℕ). w.used ++ l) (nil_from_length rest none) ∙ append-nil w.used)

pub used-stands : {told : Progress → List ℕ → List ℕ} {p q : Progress} {before after : Option (List ℕ)} (chunk rest : List ℕ) → Used told p chunk rest q before after → length rest ≡ 0
    → Stands p chunk q
used-stands {told} {p} {q} chunk rest w none = subst (λ (l : List ℕ). Stands p l q) (all chunk rest w none) (stands w.used w.progress)

pub used-written : (told : Progress → List ℕ → List ℕ) {p q : Progress} {before after : Option (List ℕ)} (chunk rest : List ℕ) → Used told p chunk rest q before after → length rest ≡ 0
    → Appends before after (told p chunk)
used-written told {p} {q} {before} {after} chunk rest w none = subst (λ (l : List ℕ). Appends before after (told p l)) (all chunk rest w none) w.written

-- Where a write fails, what is left does not count as used.
pub used-part : {told : Progress → List ℕ → List ℕ} {p q : Progress} {before after : Option (List ℕ)} (chunk rest : List ℕ) → Used told p chunk rest q before after → 0 < length rest
    → (length chunk - length rest < length chunk) × Stands p (take (length chunk - length rest) chunk) q
used-part {told} {p} {q} chunk rest w some =
    let size : length chunk ≡ length w.used + length rest = ap length w.parts ∙ length-append w.used rest in
    let n : length w.used ≡ length chunk - length rest = omega arith in
    let part : w.used ≡ take (length chunk - length rest) chunk =
    sym (take-append_seam w.used rest) ∙ ap (λ (l : List ℕ). take (length w.used) l) (sym w.parts) ∙ ap (λ (m : ℕ). take m chunk) n in
    (omega arith, subst (λ (l : List ℕ). Stands p l q) part (stands w.used w.progress))

-- A text that was put at the start of a buffer is taken from there.
pub handed : (buffer new text : List ℕ) (n : ℕ) → n ≡ length text → new ≡ sets buffer 0 text → n ≤ length new → take n new ≡ text
handed buffer new text n size put within = rw put (front buffer text n size (rw put at within))
