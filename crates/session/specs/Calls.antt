-- Any run of calls of `feed`, with chunks and buffers of any size, and what `finish` then adds. Assumes nothing.
use Rattle.std.specs.Prelude.{◌≡◌, ℕ, List, [], ◌∷◌, ◌++◌, take}
use Rattle.listing.specs.Listing.{listing}
use Rattle.session.specs.Session.{Progress, after, consumed, fed, finished, first, last_text}

-- A call: a chunk, and the length of the buffer that is lent.
pub record Call : Type 0 where
  pub chunk : List ℕ
  pub room : ℕ

-- After a run of calls: the session, the bytes that the calls used, and those that they wrote.
pub record Calls : Type 0 where
  pub progress : Progress
  pub input : List ℕ
  pub output : List ℕ

unfoldable pub calls : Progress → List Call → Calls
calls p [] = record { progress = p; input = []; output = [] }
calls p (call ∷ more) =
    let f = fed p call.chunk call.room in
    let r = calls f.progress more in
    record { progress = r.progress; input = take f.used call.chunk ++ r.input; output = f.text ++ r.output }

-- A session at p that uses an input comes to q and writes a text: with whatever follows, it leaves and writes what p does.
pub record Reached (p : Progress) (input text : List ℕ) (q : Progress) : Type 0 where
  pub then : (more : List ℕ) → consumed p (input ++ more) ≡ after text (consumed q more)

-- However an input is cut into calls, it leaves and writes the same.
abbrev pub Cut : Type 0
Cut = (run : List Call) (p : Progress) → let c = calls p run in Reached p c.input c.output c.progress

-- What is written of a script that a fresh session has consumed is its listing.
abbrev pub Consumed : Type 0
Consumed = (script : List ℕ) → finished (consumed (first []) script) ≡ listing script

-- However a fresh session is fed, what the calls write and what `finish` then adds is the listing of the input that they used.
abbrev pub Whole : Type 0
Whole = (run : List Call) → let c = calls (first []) run in c.output ++ last_text c.progress ≡ listing c.input
