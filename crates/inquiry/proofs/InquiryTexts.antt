-- A text that was written at the start of a buffer that has room for it. Assumes nothing.
use mathlib.Core.List.{List}
use mathlib.Core.Path.{◌≡◌, sym, ap, ◌∙◌}
use Prim.Native.Nat.{ℕ, ◌+◌, ◌≤◌}
use native.Mathlib.Nat.{zero-add}
use native.Mathlib.Omega.{arith}
use lib.ListN.{drop, length, take}
use lib.Seq.{length-sets, length-take-le, sets, sets-eq, take_at}
use Rattle.decimal.proofs.TextRoom.{after-room, with-room}
use Rattle.decimal.specs.Write.{after_text, with_text}
use Rattle.inquiry.specs.AskedLines.{Wrote}

pub wrote-room : (text out : List ℕ) {size : ℕ} {last : List ℕ} → length text ≤ length out → size ≡ after_text out 0 text → last ≡ with_text out 0 text
    → Wrote text size out last
wrote-room text out {size} {last} fits e f =
    let room : 0 + length text ≤ length out = omega arith in
    let counted : size ≡ length text = e ∙ after-room out 0 text room ∙ zero-add _ in
    let written : last ≡ sets out 0 text = f ∙ with-room out 0 text room in
    let within : size ≤ length last = omega (arith, counted, ap length written, length-sets out 0 text) in
    let front : take size last ≡ text = rw (written, sets-eq text out 0 room) (take_at text (drop (0 + length text) out) size (sym counted)) in
    record { counted = counted; written = written; within = within; taken = sym (length-take-le size last within); front = front }
