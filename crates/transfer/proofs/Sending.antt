-- What the writer leaves in each case: the state is not well formed, its text has room, or it has none. Assumes nothing.
use mathlib.Core.Path.{◌≡◌, sym, ◌∙◌}
use mathlib.Core.Bool.{true, false}
use mathlib.Core.List.{List, []}
use Prim.Native.Nat.{ℕ, ◌+◌, ◌≤◌, ◌<◌}
use native.Mathlib.Omega.{arith}
use lib.ListN.{length, take, drop}
use lib.Seq.{length-sets, sets, sets-eq, take_at}
use Rattle.decimal.proofs.TextRoom.{after-room, with-room, after-no-room, with-no-room}
use Rattle.decimal.specs.Write.{after_text, with_text}
use Rattle.model.specs.State.{State}
use Rattle.model.specs.WellFormed.{well_formed}
use Rattle.records.specs.RecordTexts.{records_text}
use Rattle.transfer.specs.Sent.{sent_text}

-- The number of bytes and the buffer, as the writer promises them.
abbrev pub Sent : State → List ℕ → ℕ → List ℕ → Type 0
Sent s out size last = record { value : size ≡ after_text out 0 (sent_text s); out_after : last ≡ with_text out 0 (sent_text s) }

module _ (s : State) (out : List ℕ) where
  pub sent-nothing : well_formed s ≡ false → Sent s out 0 out
  unfolding sent_text
  sent-nothing w = rw w record { value = sym (after-room out 0 [] (omega arith)); out_after = sym (with-room out 0 [] (omega arith)) }

  pub sent-whole : well_formed s ≡ true → length (records_text s) ≤ length out → {size : ℕ} {last : List ℕ} → size ≡ length (records_text s)
      → last ≡ sets out 0 (records_text s) → Sent s out size last
  unfolding sent_text
  sent-whole w room e f = rw w record { value = e ∙ omega (arith, after-room out 0 (records_text s) (omega arith)); out_after = f ∙ sym (with-room out 0 (records_text s) (omega arith)) }

  pub sent-short : well_formed s ≡ true → length out < length (records_text s) → Sent s out 0 out
  unfolding sent_text
  sent-short w short = rw w record { value = sym (after-no-room out 0 (records_text s) (omega arith)); out_after = sym (with-no-room out 0 (records_text s) (omega arith)) }

-- A text at the start of a buffer, taken out again.
pub taken_out : (buffer text : List ℕ) (n : ℕ) → n ≡ length text → n ≤ length (sets buffer 0 text) → take n (sets buffer 0 text) ≡ text
taken_out buffer text n e h =
    rw (sets-eq text buffer 0 (omega (arith, length-sets buffer 0 text))) (take_at text (drop (0 + length text) buffer) n (sym e))
