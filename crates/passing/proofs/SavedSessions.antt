-- What a session that has used a script holds: the state after it, which is well formed, or nothing where the first line is bad. So what is
-- saved of it is what saving the script gives. Assumes nothing.
use Rattle.std.specs.Prelude.{Err, None, Ok, Option, Result, Some}
use mathlib.Core.Bool.{Bool, true, false, cond, false≢true}
use mathlib.Core.List.{List, [], ◌∷◌, ◌++◌}
use mathlib.Core.Path.{◌≡◌, refl, sym, ap, ◌∙◌}
use Prim.Native.Nat.{ℕ, ◌+◌, ◌≤◌}
use native.Mathlib.Nat.{zero-add}
use native.Mathlib.Omega.{arith}
use lib.ListN.{length}
use lib.Seq.{length-sets, length-take-le, sets}
use Rattle.decimal.proofs.TextRoom.{after-room, with-room}
use Rattle.decimal.specs.Write.{after_text, with_text}
use Rattle.model.proofs.FreshFormed.{fresh-well-formed}
use Rattle.model.proofs.Keeps.{step_keeps}
use Rattle.model.specs.Fresh.{admissible, fresh}
use Rattle.model.specs.State.{State}
use Rattle.model.specs.WellFormed.{well_formed}
use Rattle.listing.specs.Listing.{answered, first_refused, number_after, state_by}
use Rattle.records.proofs.Lengths.{short-text}
use Rattle.records.specs.RecordTexts.{longest_text, records_text}
use Rattle.script.proofs.Cells.{line-at-most}
use Rattle.script.specs.EventForms.{line_event}
use Rattle.script.specs.First.{line_first}
use Rattle.script.specs.Bytes.{same}
use Rattle.script.specs.LineForms.{among, fields, numbers_in, said}
use Rattle.script.specs.ListingLine.{listing_line, longest_record}
use Rattle.script.specs.Records.{last_line, lines, lines_in}
use Rattle.session.proofs.Ending.{ended-kept}
use Rattle.session.proofs.WholeListing.{last-bytes, last-kept}
use Rattle.session.specs.Session.{Bounds, Ended, begun, consumed, consumed_lines, ended, first, last_ended, later, stopped}
use Rattle.transfer.specs.Sent.{sent_text}
use Rattle.passing.specs.Passing.{later_state, saved, saved_from, saved_of}
use Rattle.passing.specs.PassingSessions.{SavedSession, saved_text}
use Rattle.model.specs.declared.answer.Refusal.{Refusal}
use Rattle.model.specs.declared.event.Event.{Event}
use Rattle.model.specs.declared.machine.FirstLine.{FirstLine}

-- The text that is sent of a state has room in a buffer of 64 KB.
pub sent-at-most : (s : State) → length (sent_text s) ≤ longest_text
unfolding sent_text
sent-at-most s = go (well_formed s) refl
  where
    go : (b : Bool) → well_formed s ≡ b → length (cond b (records_text s) []) ≤ longest_text
    go true w = omega (arith, short-text s w)
    go false w = omega arith

-- A text that was written at the start of a buffer lies within it. The record of line 0 is such a text.
pub written-within : {used wrote : ℕ} {input last : List ℕ} (out text : List ℕ) → used ≤ length input → length text ≤ length out
    → wrote ≡ length text → last ≡ sets out 0 text → Bounds used wrote input last
written-within {used} {wrote} {input} {last} out text within room writes e =
    let fits : wrote ≤ length last = omega (arith, ap length e, length-sets out 0 text) in
    record { used-within = within; wrote-within = fits; wrote-taken = sym (length-take-le wrote last fits) }

pub line-zero-within : {used wrote : ℕ} {input last : List ℕ} (out : List ℕ) (answer : ℕ) → used ≤ length input → longest_record ≤ length out
    → wrote ≡ length (listing_line 0 answer 0 0) → last ≡ sets out 0 (listing_line 0 answer 0 0) → Bounds used wrote input last
line-zero-within out answer within room writes e = written-within out (listing_line 0 answer 0 0) within (omega (arith, line-at-most 0 answer 0 0)) writes e

-- So the text of a state is written there whole.
pub sent-in-room : (s : State) (out : List ℕ) {size : ℕ} {last : List ℕ} → length out ≡ longest_text → size ≡ after_text out 0 (sent_text s)
    → last ≡ with_text out 0 (sent_text s) → (size ≡ length (sent_text s)) × ((last ≡ sets out 0 (sent_text s)) × Bounds 0 size [] last)
sent-in-room s out {size} {last} n e f =
    let room : 0 + length (sent_text s) ≤ length out = omega (arith, sent-at-most s) in
    let wrote : size ≡ length (sent_text s) = e ∙ after-room out 0 (sent_text s) room ∙ zero-add _ in
    let written : last ≡ sets out 0 (sent_text s) = f ∙ with-room out 0 (sent_text s) room in
    (wrote, (written, written-within out (sent_text s) (omega arith) (omega (arith, sent-at-most s)) wrote written))

-- A line keeps a state well formed, and so do many.
line-keeps : (s : State) (said : Result Event Refusal) → well_formed s ≡ true → well_formed (answered s said).next ≡ true
line-keeps s (Err refusal) w = w
line-keeps s (Ok e) w = step_keeps s e w

later-keeps : (s : State) (ls : List (List ℕ)) → well_formed s ≡ true → well_formed (later_state s ls) ≡ true
unfolding later_state
later-keeps s [] w = w
later-keeps s (line ∷ ls) w = later-keeps (answered s (line_event line)).next ls (line-keeps s (line_event line) w)

-- What a session is in, once all lines have ended: the state after them.
after-later : (ls : List (List ℕ)) (rest : List ℕ) (number : ℕ) (s : State)
    → saved_text (last_ended (consumed_lines (later number s []) ls rest).progress).progress ≡ sent_text (later_state s (ls ++ last_line rest))
unfolding consumed_lines later_state ended
after-later [] [] number s = refl
after-later [] (byte ∷ rest) number s =
    ap (λ (e : Ended). saved_text e.progress) (last-kept (later number s (byte ∷ rest)) ∙ last-bytes number s byte rest)
after-later (line ∷ ls) rest number s = after-later ls rest (number_after number) (answered s (line_event line)).next

after-stopped : (ls : List (List ℕ)) (rest : List ℕ) → saved_text (last_ended (consumed_lines stopped ls rest).progress).progress ≡ first_refused
unfolding consumed_lines ended
after-stopped [] rest = refl
after-stopped (line ∷ ls) rest = after-stopped ls rest

-- A state that a first line describes is well formed, and so is the one after the lines that follow it.
begun-formed : (f : Result FirstLine Refusal) (s : State) → state_by f ≡ Some s → well_formed s ≡ true
begun-formed (Err r) s e = absurd (false≢true cc)
begun-formed (Ok f) s e = go (admissible f) refl e
  where
    go : (b : Bool) → admissible f ≡ b → cond b (Some (fresh f)) None ≡ Some s → well_formed s ≡ true
    go true a h = let same : fresh f ≡ s = cc in rw same at (fresh-well-formed f a)
    go false a h = absurd (false≢true cc)

sent-records : (s : State) → well_formed s ≡ true → sent_text s ≡ records_text s
unfolding sent_text
sent-records s w = rw w

from_first : (o : Option State) → ((s : State) → o ≡ Some s → well_formed s ≡ true) → (ls : List (List ℕ)) (rest : List ℕ)
    → saved_text (last_ended (consumed_lines (begun o).progress ls rest).progress).progress ≡ saved_from o (ls ++ last_line rest)
from_first None w ls rest = after-stopped ls rest
from_first (Some s) w ls rest = after-later ls rest 1 s ∙ sent-records (later_state s (ls ++ last_line rest)) (later-keeps s (ls ++ last_line rest) (w s refl))

-- The first line alone, where it lacks its line feed, and of an empty input.
only-first : (o : Option State) → ((s : State) → o ≡ Some s → well_formed s ≡ true) → saved_text (begun o).progress ≡ saved_from o []
unfolding later_state
only-first None w = refl
only-first (Some s) w = sent-records s (w s refl)

saved-lines : (ls : List (List ℕ)) (rest : List ℕ)
    → saved_text (last_ended (consumed_lines (first []) ls rest).progress).progress ≡ saved_of (ls ++ last_line rest)
unfolding consumed_lines ended line_first said among fields numbers_in same
saved-lines [] [] = refl
saved-lines [] (byte ∷ rest) =
    let f = line_first (byte ∷ rest) in
    ap (λ (e : Ended). saved_text e.progress) (ended-kept (first (byte ∷ rest))) ∙ only-first (state_by f) (begun-formed f)
saved-lines (line ∷ ls) rest = from_first (state_by (line_first line)) (begun-formed (line_first line)) ls rest

pub saved-session : SavedSession
unfolding consumed saved lines
saved-session script = saved-lines (lines_in script).complete (lines_in script).rest
