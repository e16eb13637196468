-- Laws of a text that is put into a buffer, whole or not at all. Assumes nothing.
use mathlib.Core.List.{List, ◌++◌}
use mathlib.Core.Path.{◌≡◌, sym, ◌∙◌}
use Prim.Native.Nat.{ℕ, ◌+◌, ◌≤◌}
use native.Mathlib.Omega.{arith}
use lib.ListN.{drop, length, length-append, take}
use lib.Seq.{sets, sets-eq, take_at}
use Rattle.decimal.proofs.TextRoom.{after-room, with-room}
use Rattle.decimal.specs.Write.{after_text, with_text}
use Rattle.script.proofs.Cells.{Written, written-length}

-- The place and the buffer after a text, as a function promises them.
abbrev pub Put : List ℕ → ℕ → List ℕ → ℕ → List ℕ → Type 0
Put buffer at text after last = record { value : after ≡ after_text buffer at text; out_after : last ≡ with_text buffer at text }

-- A text that has room is written, and what is written with room is promised so.
pub put_written : (buffer : List ℕ) (at : ℕ) (text : List ℕ) {after : ℕ} {last : List ℕ} → at + length text ≤ length buffer
    → Put buffer at text after last → Written buffer at text after last
put_written buffer at text room p = record { value = p.value ∙ after-room buffer at text room; out_after = p.out_after ∙ with-room buffer at text room }

pub written-put : (buffer : List ℕ) (at : ℕ) (text : List ℕ) {after : ℕ} {last : List ℕ} → at + length text ≤ length buffer
    → Written buffer at text after last → Put buffer at text after last
written-put buffer at text room w = record { value = w.value ∙ sym (after-room buffer at text room); out_after = w.out_after ∙ sym (with-room buffer at text room) }

-- At the start of the buffer.
abbrev pub Begun : List ℕ → List ℕ → ℕ → List ℕ → Type 0
Begun buffer text after last = record { value : after ≡ length text; out_after : last ≡ sets buffer 0 text }

pub written-begun : (buffer text : List ℕ) {after : ℕ} {last : List ℕ} → Written buffer 0 text after last → Begun buffer text after last
written-begun buffer text w = record { value = omega (arith, w.value); out_after = w.out_after }

pub begun-written : (buffer text : List ℕ) {after : ℕ} {last : List ℕ} → Begun buffer text after last → Written buffer 0 text after last
begun-written buffer text w = record { value = omega (arith, w.value); out_after = w.out_after }

pub put-start : (buffer text : List ℕ) {after : ℕ} {last : List ℕ} → length text ≤ length buffer
    → Put buffer 0 text after last → Begun buffer text after last
put-start buffer text room p = written-begun buffer text (put_written buffer 0 text (omega arith) p)

-- Room for two texts is room for the first, and for the second once the first is written.
pub first-room : (out : List ℕ) (at : ℕ) (a b : List ℕ) → at + length (a ++ b) ≤ length out → at + length a ≤ length out
first-room out at a b h = omega (arith, length-append a b)

pub second-room : (out : List ℕ) (at : ℕ) (a b : List ℕ) {after : ℕ} {last : List ℕ} → at + length (a ++ b) ≤ length out
    → Written out at a after last → after + length b ≤ length last
second-room out at a b h w = omega (arith, length-append a b, w.value, written-length out at a w)

-- A text at the start of a buffer, taken out again.
pub taken_out : (buffer text : List ℕ) (n : ℕ) → n ≡ length text → n ≤ length buffer → take n (sets buffer 0 text) ≡ text
taken_out buffer text n e h =
    rw (sets-eq text buffer 0 (omega arith)) (take_at text (drop (0 + length text) buffer) n (sym e))
