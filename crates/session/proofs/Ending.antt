-- Laws of the end of a line: what the code has of it, against the definitions. Assumes nothing.
use Rattle.std.specs.Prelude.{Err, None, Ok, Option, Result, Some}
use Rattle.std.proofs.Common.{◌≡◌, ℕ, ◌+◌, ◌-◌, ◌%◌, ◌≤◌, min, Bool, true, false, cond, ◌&&◌, eqb, ltb, List, [], ◌∷◌, ◌++◌, length, get_or, take, drop, replicate, sym, refl, ap, ◌∙◌, arith, length-take, length-take-le, take_all, take_at, ltb-false, ltb-true, lt-ltb, eqb-true}
use mathlib.Core.Bool.{false≢true}
use lib.ListN.{length-replicate, replicate-append-replicate}
use Rattle.model.proofs.FreshFormed.{few-pages}
use Rattle.model.proofs.Keeps.{step_keeps}
use Rattle.model.specs.Answers.{refusal_number}
use Rattle.model.specs.Fresh.{admissible, fresh}
use Rattle.model.specs.State.{State, level, past_vp}
use Rattle.model.specs.Step.{Outcome, next_for, step}
use Rattle.model.specs.WellFormed.{well_formed}
use Rattle.model.specs.declared.answer.Answer.{Answer}
use Rattle.model.specs.declared.answer.Answer.TheVariants.{Refused}
use Rattle.model.specs.declared.answer.Refusal.{Refusal}
use Rattle.model.specs.declared.answer.Refusal.TheVariants.{LineTooLong}
use Rattle.model.specs.declared.event.Event.{Event}
use Rattle.model.specs.declared.machine.FirstLine.{FirstLine}
use Rattle.model.specs.declared.quantity.Level.{Level}
use Rattle.model.specs.declared.quantity.Processor.{Processor}
use Rattle.script.specs.EventForms.{events, line_event}
use Rattle.script.specs.First.{first_form, line_first}
use Rattle.script.specs.LineForms.{Form, fields, said, said_in}
use Rattle.step.proofs.KnownFormed.{step-as-if}
use Rattle.step.specs.Stepped.{step_if}
use Rattle.session.specs.declared.Phase.{Phase}
use Rattle.session.specs.declared.Phase.TheVariants as phase
use Rattle.listing.proofs.LevelShown.{event-shown, level-column}
use Rattle.listing.specs.Answer.{level_on, shown_by, shown_of}
use Rattle.listing.specs.Listing.{answered, number_after, record_of, state_by}
use Rattle.model.specs.LevelColumn.{processor_of}
use Rattle.session.specs.SessionParts.{blank_in, has_stopped, is_later}
use Rattle.session.specs.Session.{Progress, begun, continued, ended, extended, first, is_stopped, kept, last_ended, later, lent_of, progress_in, room_for, stopped}
use Rattle.chunk.specs.Chunk.{held}

-- A session of each phase that holds no bytes, and one that takes more bytes.
pub blank-in : (p : Phase) (number : ℕ) (s : State) → number ≡ 0 → progress_in p number s [] ≡ blank_in p s
blank-in phase.First number s e = refl
blank-in phase.Later number s e = rw e
blank-in phase.Stopped number s e = refl

pub keep-in : (p : Phase) (number : ℕ) (s : State) (line more line' : List ℕ) → line' ≡ take 257 (line ++ more)
    → progress_in p number s line' ≡ kept (extended (progress_in p number s line) more)
keep-in phase.First number s line more line' e = rw e
keep-in phase.Later number s line more line' e = rw e
keep-in phase.Stopped number s line more line' e = refl

-- All words of a fresh machine are 0.
pub fresh-words : (f : FirstLine) → admissible f ≡ true → lent_of (replicate 64 0) f.pages ≡ (fresh f).words
unfolding fresh
fresh-words f h =
    let pages : f.pages ≤ 64 = few-pages f h in
    let count : min f.pages 64 ≡ f.pages = omega arith in
    let rest : f.pages + (64 - f.pages) ≡ 64 = omega arith in
    let zeros : replicate {A = ℕ} 64 0 ≡ replicate f.pages 0 ++ replicate (64 - f.pages) 0 =
    ap (λ (n : ℕ). replicate {A = ℕ} n 0) (sym rest) ∙ sym (replicate-append-replicate f.pages (64 - f.pages) 0) in
    ap (λ (n : ℕ). take n (replicate {A = ℕ} 64 0)) count
    ∙ ap (take f.pages) zeros
    ∙ take_at (replicate f.pages 0) (replicate (64 - f.pages) 0) f.pages (length-replicate f.pages 0)

-- Words that were lent and have come back.
pub words_back : (words lent : List ℕ) (k : ℕ) → k ≤ length words → length lent ≡ length (take k words) → take k (lent ++ drop k words) ≡ lent
words_back words lent k h e = take_at lent (drop k words) k (e ∙ length-take-le k words h)

-- A state that is not well formed stays as it is.
refused-next : (s : State) (e : Event) → well_formed s ≡ false → (step s e).next ≡ s
unfolding step next_for
refused-next s e w = rw w

-- The end of a first line that is malformed, and of one that is not admissible or is.
pub first-malformed : (line : List ℕ) (refusal : Refusal) → line_first line ≡ Err refusal → ended (first line) ≡ begun None
unfolding ended
first-malformed line refusal e = rw e

pub first-refused : (line : List ℕ) (f : FirstLine) → line_first line ≡ Ok f → admissible f ≡ false → ended (first line) ≡ begun None
unfolding ended
first-refused line f e h = rw (e, h)

pub first_done : (line : List ℕ) (f : FirstLine) → line_first line ≡ Ok f → admissible f ≡ true → ended (first line) ≡ begun (Some (fresh f))
unfolding ended
first_done line f e h = rw (e, h)

-- The end of a later line.
pub ended_by : (number : ℕ) (s next : State) (line text : List ℕ) → next ≡ (answered s (line_event line)).next → text ≡ record_of number (answered s (line_event line))
    → (later (number_after number) next [] ≡ (ended (later number s line)).progress) × (text ≡ (ended (later number s line)).text)
unfolding ended
ended_by number s next line text n t = (rw n, t)

-- A line that is malformed: nothing changes.
pub told-malformed : (s : State) (line : List ℕ) (refusal : Refusal) → line_event line ≡ Err refusal
    → (s ≡ (answered s (line_event line)).next) × (shown_of (Refused refusal) (level 0) ≡ shown_by (answered s (line_event line)))
told-malformed s line refusal e =
    rw e (refl, ap (λ (l : Level). record { answer = refusal_number refusal; value = 0; level = l }) (level-column (refusal_number refusal) 0 ∙ go (eqb (refusal_number refusal) 1)))
  where
    go : (t : Bool) → level (cond t 0 0) ≡ level 0
    go true = refl
    go false = refl

-- An event on a machine: the state, what is shown, and whether the state is well formed.
module _ (s next : State) (e : Event) (formed : Bool) (well : formed ≡ well_formed s) (a : Answer)
    (done : record { answer = a; next = next } ≡ step_if formed s e)
  where
    stepped : record { answer = a; next = next } ≡ step s e
    stepped = done ∙ step-as-if formed s e well

    pub told-next : next ≡ (answered s (Ok e)).next
    told-next = ap (λ (o : Outcome). o.next) stepped

    pub told-formed : formed ≡ well_formed next
    told-formed = well ∙ go (well_formed s) refl ∙ sym (ap (λ (o : Outcome). well_formed o.next) stepped)
      where
        go : (b : Bool) → well_formed s ≡ b → well_formed s ≡ well_formed (step s e).next
        go true w = w ∙ sym (step_keeps s e w)
        go false w = sym (ap well_formed (refused-next s e w))

    pub told-shown : (v : Processor) → v ≡ processor_of e
        → (on : Level) → on ≡ level_on v next.machine.processors (get_or next.machine.vps (v.0 % 4) past_vp).active
        → shown_of a on ≡ shown_by (answered s (Ok e))
    told-shown v here on there = event-shown s next e a stepped v here on there

-- At the end of a script: a later line that has no bytes, and any other line.
pub last_none : (p : Phase) (number : ℕ) (s : State) (line : List ℕ) → (is_later p && eqb (length line) 0) ≡ true
    → last_ended (progress_in p number s line) ≡ record { progress = progress_in p number s line; text = [] }
last_none phase.First number s line e = absurd (false≢true e)
last_none phase.Later number s line e = rw e
last_none phase.Stopped number s line e = refl

pub last_some : (p : Phase) (number : ℕ) (s : State) (line : List ℕ) → (is_later p && eqb (length line) 0) ≡ false
    → last_ended (progress_in p number s line) ≡ ended (progress_in p number s line)
unfolding ended
last_some phase.First number s line e = refl
last_some phase.Later number s line e = rw e
last_some phase.Stopped number s line e = refl

-- A session in a later line of which it holds nothing, one that has stopped, and one that has not.
pub later-in : (p : Phase) (number : ℕ) (s : State) (buffer : List ℕ) (size : ℕ) → (is_later p && eqb size 0) ≡ true
    → progress_in p number s (held buffer size) ≡ later number s []
later-in phase.First number s buffer size e = absurd (false≢true e)
later-in phase.Later number s buffer size e = rw (eqb-true size 0 e)
later-in phase.Stopped number s buffer size e = absurd (false≢true e)

pub stopped-in : (p : Phase) (number : ℕ) (s : State) (line : List ℕ) → has_stopped p ≡ true → progress_in p number s line ≡ stopped
stopped-in phase.First number s line e = absurd (false≢true e)
stopped-in phase.Later number s line e = absurd (false≢true e)
stopped-in phase.Stopped number s line e = refl

pub phase-stopped : (p : Phase) (number : ℕ) (s : State) (line : List ℕ) → has_stopped p ≡ is_stopped (progress_in p number s line)
phase-stopped phase.First number s line = refl
phase-stopped phase.Later number s line = refl
phase-stopped phase.Stopped number s line = refl

pub room_in : (p : Phase) (number : ℕ) (s : State) (line : List ℕ) → has_stopped p ≡ false → room_for (progress_in p number s line) ≡ 84
room_in phase.First number s line e = refl
room_in phase.Later number s line e = refl
room_in phase.Stopped number s line e = absurd (false≢true (sym e))

-- After the end of a line no bytes of a line are held, and the session is not in the first line.
bytes_of : Progress → List ℕ
bytes_of (first line) = 0 ∷ line
bytes_of (later number s line) = line
bytes_of stopped = []

begun-bytes : (o : Option State) → bytes_of (begun o).progress ≡ []
unfolding bytes_of
begun-bytes None = refl
begun-bytes (Some s) = refl

ended-bytes : (p : Progress) → bytes_of (ended p).progress ≡ []
unfolding bytes_of ended
ended-bytes (first line) = begun-bytes (state_by (line_first line))
ended-bytes (later number s line) = refl
ended-bytes stopped = refl

pub ended-later : (q : Progress) (p : Phase) (number : ℕ) (s : State) (line : List ℕ) → has_stopped p ≡ false
    → progress_in p number s line ≡ (ended q).progress → progress_in p number s line ≡ later number s []
unfolding bytes_of
ended-later q phase.First number s line e h = absurd (omega (arith, ap (λ (x : Progress). length (bytes_of x)) h, ap length (ended-bytes q)))
ended-later q phase.Later number s line e h = ap (later number s) (ap bytes_of h ∙ ended-bytes q)
ended-later q phase.Stopped number s line e h = absurd (false≢true (sym e))

-- The bytes that are kept of a line say what the line says, in forms that may depend on the line: one that is cut is too long in all.
module _ {A R : Type 0} (good : A → R) (bad : Refusal → R) (forms : List ℕ → List (Form A)) (line : List ℕ) where
  pub said-kept : said good bad (forms (take 257 line)) (take 257 line) ≡ said good bad (forms line) line
  unfolding said
  said-kept = go (ltb 256 (length line)) refl
    where
      go : (t : Bool) → ltb 256 (length line) ≡ t
          → cond (ltb 256 (length (take 257 line))) (bad LineTooLong) (said_in good bad (forms (take 257 line)) (fields (take 257 line))) ≡ cond t (bad LineTooLong) (said_in good bad (forms line) (fields line))
      go true e = rw (lt-ltb 256 (length (take 257 line)) (omega (arith, length-take 257 line, ltb-true 256 (length line) e)))
      go false e = rw (take_all 257 line (omega (arith, ltb-false 256 (length line) e)), e)

pub ended-kept : (p : Progress) → ended (kept p) ≡ ended p
unfolding ended line_event line_first
ended-kept (first line) = ap (λ (x : Result FirstLine Refusal). begun (state_by x)) (said-kept Ok Err (λ l. first_form (eqb (length (fields l)) 7) ∷ []) line)
ended-kept (later number s line) = ap (λ (x : Result Event Refusal). continued number (answered s x)) (said-kept Ok Err (λ l. events) line)
ended-kept stopped = refl
