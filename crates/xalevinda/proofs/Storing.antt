-- Laws of a text that is written piece by piece into a buffer, each piece only where it has room, while its bytes are counted.
-- Assumes nothing.
use mathlib.Core.Bool.{Bool, true, false, cond}
use mathlib.Core.List.{List, [], ◌++◌, append_assoc}
use mathlib.Core.Path.{◌≡◌, refl, sym, ap, ◌∙◌}
use Prim.Native.Nat.{ℕ, ◌+◌, ◌^◌, ◌≤◌, ◌<◌}
use native.Mathlib.Omega.{arith}
use lib.ListN.{length, length-append, take}
use lib.Seq.{length-sets, sets}
use Rattle.decimal.proofs.TextRoom.{with-no-room, with-room}
use Rattle.decimal.specs.Write.{has_room, with_text}
use Rattle.script.proofs.StoredTexts.{sets-append}
use Rattle.session.proofs.Callers.{front}
use Rattle.xalevinda.specs.Exports.{at_most_word, size_of}
use Rattle.xalevinda.specs.StoredListing.{Stored}

-- The buffer keeps its length.
pub with-length : (buffer : List ℕ) (at : ℕ) (text : List ℕ) → length (with_text buffer at text) ≡ length buffer
unfolding with_text
with-length buffer at text = go (has_room buffer at text)
  where
    go : (t : Bool) → length (cond t (sets buffer at text) buffer) ≡ length buffer
    go true = length-sets buffer at text
    go false = refl

-- A text that a function has written at the start of its own buffer is taken from there.
pub own-text : {wrote : ℕ} {last : List ℕ} (buffer text : List ℕ) → wrote ≡ length text → last ≡ sets buffer 0 text → wrote ≤ length last
    → take wrote last ≡ text
own-text {wrote} buffer text writes e within = rw e (front buffer text wrote writes (rw e at within))

-- Nothing yet; one text and then another; and a text that was put at once.
pub stored-none : (at : ℕ) (out : List ℕ) → at < 2 ^ 64 → Stored [] at at out out
stored-none at out h = record { counted = omega arith; same_length = refl; stored = λ fits. refl }

pub stored-then : {text more : List ℕ} {at size size' : ℕ} {before out after : List ℕ} → Stored text at size before out
    → Stored more size size' out after → length before < 2 ^ 63 → Stored (text ++ more) at size' before after
stored-then {text} {more} {at} {size} {size'} {before} {out} {after} w v h = record {
  counted = omega (arith, v.counted, w.counted, length-append text more);
  same_length = v.same_length ∙ w.same_length;
  stored = λ fits.
      let both : at + length text + length more ≤ length before = omega (arith, length-append text more) in
      let place : size ≡ at + length text = omega (arith, w.counted) in
      v.stored (omega (arith, w.same_length))
      ∙ rw (w.stored (omega arith), place) (sets-append text before at more);
}

pub stored-put : {text : List ℕ} {at size : ℕ} {before after : List ℕ} → size ≡ at_most_word (at + length text) → after ≡ with_text before at text
    → Stored text at size before after
stored-put {text} {at} {size} {before} {after} counted put = record {
  counted = counted;
  same_length = ap length put ∙ with-length before at text;
  stored = λ fits. put ∙ with-room before at text fits;
}

-- One piece more.
pub stored_more : {text : List ℕ} {at size : ℕ} {before out : List ℕ} → Stored text at size before out → length before < 2 ^ 63
    → (piece : List ℕ) {size' : ℕ} {out' : List ℕ} → size' ≡ at_most_word (size + length piece) → out' ≡ with_text out size piece
    → Stored (text ++ piece) at size' before out'
stored_more w h piece counted put = stored-then w (stored-put counted put) h

-- How many bytes a text has that was stored from the start on.
pub stored-size : {text : List ℕ} {size : ℕ} {before after : List ℕ} → Stored text 0 size before after → size ≡ size_of text
stored-size w = omega (arith, w.counted)

-- All of it was stored where as many bytes as it has fit.
pub stored-whole : {text : List ℕ} {size count : ℕ} {before after : List ℕ} → Stored text 0 size before after → length before < 2 ^ 63
    → count ≡ size_of text → count ≤ length before → after ≡ with_text before 0 text
stored-whole {text} {size} {count} {before} w h counted fits =
    let room : 0 + length text ≤ length before = omega arith in
    w.stored room ∙ sym (with-room before 0 text room)

-- Nothing was stored where they do not fit.
pub stored-nothing : (text : List ℕ) (count : ℕ) (before : List ℕ) → count ≡ size_of text → length before < count → before ≡ with_text before 0 text
stored-nothing text count before counted short = sym (with-no-room before 0 text (omega arith))

-- A text that is written piece by piece: so much of it is left, and what came before stands in the buffer from a place on.
pub record Partly (whole left : List ℕ) (begun : ℕ) (before : List ℕ) (size : ℕ) (out : List ℕ) : Type 0 where
  pub text : List ℕ
  pub parts : whole ≡ text ++ left
  pub stored : Stored text begun size before out

pub partly-start : (whole : List ℕ) (begun : ℕ) (out : List ℕ) → begun < 2 ^ 64 → Partly whole whole begun out begun out
partly-start whole begun out h = record { text = []; parts = refl; stored = stored-none begun out h }

module _ {whole left : List ℕ} {begun : ℕ} {before : List ℕ} {size : ℕ} {out : List ℕ} (w : Partly whole left begun before size out) (h : length before < 2 ^ 63) where
  -- A piece was written into a buffer of its own, and put after the others.
  module _ {wrote size' : ℕ} {last out' : List ℕ} (buffer piece : List ℕ) (writes : wrote ≡ length piece) (recorded : last ≡ sets buffer 0 piece)
      (within : wrote ≤ length last) (counted : size' ≡ at_most_word (size + wrote)) (put : out' ≡ with_text out size (take wrote last)) where
    more : Stored (w.text ++ piece) begun size' before out'
    more = stored_more w.stored h piece (rw writes at counted) (rw (own-text buffer piece writes recorded within) at put)

    pub partly-more : (left' : List ℕ) → left ≡ piece ++ left' → Partly whole left' begun before size' out'
    partly-more left' e =
        record { text = w.text ++ piece; parts = w.parts ∙ ap (λ (l : List ℕ). w.text ++ l) e ∙ sym (append_assoc w.text piece left'); stored = more }

    -- It was the last one.
    pub partly-done : left ≡ piece → Stored whole begun size' before out'
    partly-done e = rw (w.parts ∙ ap (λ (l : List ℕ). w.text ++ l) e) more
