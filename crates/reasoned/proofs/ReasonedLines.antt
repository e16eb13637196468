-- Laws of lines that end with their reasons: only what is kept of a line counts, and one line of a chunk is taken at once. Assumes nothing.
use Rattle.std.specs.Prelude.{Err, None, Ok, Option, Result, Some}
use Rattle.std.proofs.Common.{◌≡◌, ℕ, ◌+◌, ◌<◌, ◌≤◌, Bool, true, false, cond, eqb, List, [], ◌∷◌, ◌++◌, length, take, drop, sym, refl, ap, ◌∙◌, append-nil, arith, length-take-le, take_all}
use mathlib.Core.Bool.{false≢true}
use native.Mathlib.Nat.{sub-zero}
use lib.Seq.{take-append-add}
use Rattle.chunk.proofs.ChunkLines.{end-within, joined, lines_from, lines-joined, lines-last, with_line}
use Rattle.chunk.specs.Chunk.{line_end}
use Rattle.listing.specs.Listing.{answered, number_after, state_by}
use Rattle.model.specs.State.{State}
use Rattle.reason.proofs.PlainFields.{short-reasoned}
use Rattle.reason.specs.ReasonedListing.{first_reason}
use Rattle.asked.specs.AskedAccess.{asked_by}
use Rattle.listing.specs.Answer.{shown_by, shown_of}
use Rattle.listing.specs.declared.Shown.{Shown}
use Rattle.model.specs.Answers.{refusal_number}
use Rattle.model.specs.State.{level}
use Rattle.model.specs.declared.answer.Answer.TheVariants.{Refused}
use Rattle.model.specs.declared.answer.Refusal.{Refusal}
use Rattle.reason.specs.Reasons.{cause_of, reason_for, reasoned_record, reasoned_text}
use Rattle.reason.specs.declared.Reason.TheVariants as reason
use Rattle.reason.specs.declared.Reason.{Reason}
use Rattle.records.specs.RecordTexts.{ended as with_feeds}
use Rattle.script.specs.EventForms.{events, line_event}
use Rattle.script.specs.First.{first_form, line_first}
use Rattle.script.specs.LineForms.{fields}
use Rattle.script.specs.ListingLine.{line_feed}
use Rattle.script.specs.Records.{Lines, lines_in}
use Rattle.session.proofs.Ending.{said-kept}
use Rattle.session.proofs.WholeListing.{Plain, kept-twice, line-ended, lines-plain}
use Rattle.session.specs.Session.{Bounds, Progress, begun, consumed, consumed_lines, ended, extended, first, is_stopped, kept, last_ended, later, progress_in, stopped}
use Rattle.session.specs.declared.Phase.{Phase}
use Rattle.session.specs.declared.Phase.TheVariants as phase
use Rattle.reasoned.specs.ReasonedSession.{first_text, last_told, line_text, line_used, told, told_lines}
use Rattle.model.specs.declared.event.Event.{Event}
use Rattle.model.specs.declared.machine.FirstLine.{FirstLine}

-- Only what is kept of a line counts.
pub text-kept : (p : Progress) → line_text (kept p) ≡ line_text p
unfolding line_text line_event line_first
text-kept (first line) =
    ap (λ (x : Result FirstLine Refusal). first_text (state_by x) (first_reason x)) (said-kept Ok Err (λ l. first_form (eqb (length (fields l)) 7) ∷ []) line)
text-kept (later number s line) =
    ap (λ (x : Result Event Refusal). with_feeds (reasoned_record number s x ∷ [])) (said-kept Ok Err (λ l. events) line)
text-kept stopped = refl

pub text-twice : (p : Progress) (line more : List ℕ) → line_text (extended (kept (extended p line)) more) ≡ line_text (extended p (line ++ more))
text-twice p line more =
    sym (text-kept (extended (kept (extended p line)) more)) ∙ ap line_text (kept-twice p line more) ∙ text-kept (extended p (line ++ more))

-- After a line that has ended the session holds nothing.
pub nothing-held : (p : Progress) → kept (extended (ended p).progress []) ≡ (ended p).progress
unfolding ended
nothing-held (first line) = go (state_by (line_first line))
  where
    go : (o : Option State) → kept (extended (begun o).progress []) ≡ (begun o).progress
    go None = refl
    go (Some s) = refl
nothing-held (later number s line) = refl
nothing-held stopped = refl

-- A text of a line has room.
first_short : (o : Option State) (why : Reason) → length (first_text o why) ≤ 255
first_short None why = short-reasoned 0 1 0 0 why
first_short (Some s) why = short-reasoned 0 0 0 0 _

pub text-short : (p : Progress) → length (line_text p) ≤ 255
unfolding line_text
text-short (first line) = first_short (state_by (line_first line)) (first_reason (line_first line))
text-short (later number s line) = short-reasoned number _ _ _ _
text-short stopped = omega arith

-- The first line of a chunk, with its line feed.
module _ (chunk : List ℕ) (end : ℕ) (e : end ≡ line_end chunk 0) where
  pub none-ends : length chunk ≤ end → lines_in chunk ≡ record { complete = []; rest = chunk }
  none-ends h = lines-last chunk 0 end e (omega arith) h

  module _ (h : end < length chunk) where
    whole : lines_in chunk ≡ with_line (take end chunk) (lines_in (drop (end + 1) chunk))
    whole = rw (sub-zero end) at (lines_from chunk 0 end e (omega arith) h)

    plain : Plain (take end chunk)
    plain = (rw whole at (lines-plain chunk)).0.0

    parts : chunk ≡ take end chunk ++ line_feed ∷ joined (lines_in (drop (end + 1) chunk)).complete (lines_in (drop (end + 1) chunk)).rest
    parts = sym (lines-joined chunk) ∙ (unfold joined in (ap (λ (l : Lines). joined l.complete l.rest) whole))

    -- The line and its line feed are what is taken.
    taken : take (end + 1) chunk ≡ take end chunk ++ line_feed ∷ []
    taken =
        let line = take end chunk in
        let size : end + 1 ≡ length line + 1 = omega (arith, length-take-le end chunk (omega arith)) in
        ap (λ (n : ℕ). take n chunk) size
        ∙ ap (take (length line + 1)) parts
        ∙ take-append-add line (line_feed ∷ joined (lines_in (drop (end + 1) chunk)).complete (lines_in (drop (end + 1) chunk)).rest) 1

    pub one-ends : lines_in (take (end + 1) chunk) ≡ record { complete = take end chunk ∷ []; rest = [] }
    one-ends = ap lines_in taken ∙ line-ended (take end chunk) [] plain ∙ (unfold lines_in in refl)

-- What the code gives of a chunk: no line ends in it, or its first line was ended.
module _ (p : Progress) (chunk : List ℕ) (end : ℕ) (e : end ≡ line_end chunk 0) where
  all-used : length chunk ≤ end → line_used chunk ≡ length chunk
  all-used h = omega arith

  pub kept-all : length chunk ≤ end
      → (end ≡ line_used chunk)
      × ((kept (extended p chunk) ≡ (consumed p (take (line_used chunk) chunk)).progress) × ([] ≡ told p (take (line_used chunk) chunk)))
  unfolding consumed consumed_lines told told_lines
  kept-all h =
      let used : end ≡ line_used chunk = omega (arith, end-within chunk 0 (omega arith)) in
      (used, rw (all-used h, take_all (length chunk) chunk (omega arith), none-ends chunk end e h) (refl, refl))

  pub one_line : end < length chunk
      → (end + 1 ≡ line_used chunk)
      × (((ended (extended p (take end chunk))).progress ≡ (consumed p (take (line_used chunk) chunk)).progress)
      × (line_text (extended p (take end chunk)) ≡ told p (take (line_used chunk) chunk)))
  unfolding consumed consumed_lines told told_lines
  one_line h =
      let used : end + 1 ≡ line_used chunk = omega arith in
      (used, rw (← used, one-ends chunk end e h) (sym (nothing-held (extended p (take end chunk))), sym (append-nil (line_text (extended p (take end chunk))))))

-- The first line, as the code ends it.
pub first_ended : (p : Phase) (number : ℕ) (s : State) (line : List ℕ) → p ≡ phase.First → last_ended (progress_in p number s line) ≡ ended (first line)
first_ended p number s line e = rw e

pub first-refused : (line : List ℕ) → is_stopped (ended (first line)).progress ≡ true → line_text (first line) ≡ reasoned_text 0 1 0 0 (first_reason (line_first line))
unfolding ended line_text
first-refused line h = go (state_by (line_first line)) h
  where
    go : (o : Option State) → is_stopped (begun o).progress ≡ true → first_text o (first_reason (line_first line)) ≡ reasoned_text 0 1 0 0 (first_reason (line_first line))
    go None k = refl
    go (Some s) k = absurd (false≢true k)

pub first_done : (line : List ℕ) → is_stopped (ended (first line)).progress ≡ false → line_text (first line) ≡ reasoned_text 0 0 0 0 reason.Nothing
unfolding ended line_text
first_done line h = go (state_by (line_first line)) h
  where
    go : (o : Option State) → is_stopped (begun o).progress ≡ false → first_text o (first_reason (line_first line)) ≡ reasoned_text 0 0 0 0 reason.Nothing
    go None k = absurd (false≢true (sym k))
    go (Some s) k = refl

-- A later line: the session after it, and its text. A malformed line shows its refusal.
pub later-progress : (number : ℕ) (s next : State) (line : List ℕ) → next ≡ (answered s (line_event line)).next
    → later (number_after number) next [] ≡ (ended (later number s line)).progress
unfolding ended
later-progress number s next line e = rw e

pub later-text : (number : ℕ) (s : State) (line : List ℕ) (said : Result Event Refusal) (shown : Shown) (why : Reason) → said ≡ line_event line
    → shown ≡ shown_by (answered s said) → why ≡ reason_for (cause_of s (asked_by said)) (answered s said).answer
    → reasoned_text number shown.answer shown.value shown.level.0 why ≡ line_text (later number s line)
unfolding line_text
later-text number s line said shown why e h k = rw (h, k, e)

pub shown-malformed : (s : State) (r : Refusal) → shown_of (Refused r) (level 0) ≡ shown_by (answered s (Err r))
shown-malformed s r = go (eqb (refusal_number r) 1)
  where
    go : (t : Bool) → ◌≡◌ {A = Shown} (record { answer = refusal_number r; value = 0; level = cond t (level 0) (level 0) }) (record { answer = refusal_number r; value = 0; level = level 0 })
    go true = refl
    go false = refl

-- At the end of a script: a line that has bytes is ended.
pub none-long : (line : List ℕ) → length line ≡ 0 → line ≡ []
none-long [] h = refl
none-long (byte ∷ line) h = absurd (omega arith)

pub last_line : (p : Phase) (number : ℕ) (s : State) (line : List ℕ) → (length line ≡ 0 → ⊥)
    → last_told (progress_in p number s line) ≡ line_text (progress_in p number s line)
unfolding line_text
last_line phase.First number s [] h = absurd (h refl)
last_line phase.First number s (byte ∷ line) h = refl
last_line phase.Later number s [] h = absurd (h refl)
last_line phase.Later number s (byte ∷ line) h = refl
last_line phase.Stopped number s line h = refl

-- What a caller needs to take what was written.
pub bounds : (used wrote : ℕ) (chunk out : List ℕ) → used ≤ length chunk → wrote ≤ length out → Bounds used wrote chunk out
bounds used wrote chunk out h k = record { used-within = h; wrote-within = k; wrote-taken = sym (length-take-le wrote out k) }
