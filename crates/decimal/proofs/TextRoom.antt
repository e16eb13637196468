-- Laws of a text that is put into a buffer: where it has room it stands there, and where it has none nothing changes.
-- Assumes nothing.
use Prim.Native.Nat.{ℕ, ◌+◌, ◌≤◌, ◌<◌}
use mathlib.Core.Path.{◌≡◌}
use mathlib.Core.List.{List}
use borrow.Author.Tests.{le-leb, lt-leb}
use lib.ListN.{length}
use lib.Seq.{sets}
use Rattle.decimal.specs.Write.{after_text, with_text}

-- The text has room.
module _ (buffer : List ℕ) (at : ℕ) (text : List ℕ) (room : at + length text ≤ length buffer) where
  pub with-room : with_text buffer at text ≡ sets buffer at text
  unfolding with_text
  with-room = rw (le-leb (at + length text) (length buffer) room)

  pub after-room : after_text buffer at text ≡ at + length text
  unfolding after_text
  after-room = rw (le-leb (at + length text) (length buffer) room)

-- The text has no room.
module _ (buffer : List ℕ) (at : ℕ) (text : List ℕ) (short : length buffer < at + length text) where
  pub with-no-room : with_text buffer at text ≡ buffer
  unfolding with_text
  with-no-room = rw (lt-leb (at + length text) (length buffer) short)

  pub after-no-room : after_text buffer at text ≡ at
  unfolding after_text
  after-no-room = rw (lt-leb (at + length text) (length buffer) short)
