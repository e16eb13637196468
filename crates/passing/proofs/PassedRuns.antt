-- A run from the state that was read back goes as one from the state that was saved: they differ in what is no part of a state, and a step
-- commutes with hiding. Assumes nothing.
use Rattle.std.specs.Prelude.{Err, Ok, Result}
use mathlib.Core.Path.{◌≡◌, refl}
use mathlib.Core.Bool.{Bool, true, false, ◌||◌, false≢true}
use mathlib.Core.List.{List, [], ◌∷◌}
use Prim.Native.Nat.{ℕ}
use native.Mathlib.Omega.{arith}
use lib.Dec.{leb, ltb}
use borrow.Author.Tests.{lt-ltb}
use Rattle.model.specs.declared.event.Event.{Event}
use Rattle.model.specs.declared.event.Event.TheVariants.{Made, Int}
use Rattle.model.specs.Hide.{quiet_maker}
use Rattle.model.specs.State.{State, active, processors}
use Rattle.model.specs.Step.{maker, step}
use Rattle.model.specs.WellFormed.{well_formed}
use Rattle.model.proofs.Formed.{well-moded, active-level, is-processor}
use Rattle.model.proofs.Four.{level-low}
use Rattle.model.proofs.Keeps.{step_keeps}
use Rattle.model.proofs.Steps.{step-hide, hide_outcome}
use Rattle.model.proofs.Whole.{active-hide}
use Rattle.listing.specs.Listing.{answered, later_records, number_after}
use Rattle.model.specs.LevelColumn.{processor_of}
use Rattle.records.specs.Values.{plain}
use Rattle.records.proofs.SameBytes.{read_back}
use Rattle.script.specs.Records.{lines}
use Rattle.script.specs.EventForms.{line_event}
use Rattle.passing.specs.Passing.{later_state, resumed}
use Rattle.passing.specs.PassingClaims.{Numbered, Passing, TwoParts, numbered, told, told_by}
use Rattle.model.specs.declared.answer.Refusal.{Refusal}

pub numbered-records : Numbered
unfolding later_records numbered told
numbered-records number s [] = refl
numbered-records number s (line ∷ more) = rw (numbered-records (number_after number) (answered s (line_event line)).next more)

pub two-parts : (s : State) (one two : List (List ℕ)) → TwoParts s one two
unfolding told later_state
two-parts s [] two = record { records = refl; state = refl }
two-parts s (line ∷ one) two =
    let r = two-parts (answered s (line_event line)).next one two in
    record { records = rw r.records; state = r.state }

-- No level is active from 4 up.
quiet-maker : (s : State) (e : Event) → well_formed s ≡ true → quiet_maker 4 s (maker e) ≡ true
unfolding quiet_maker maker active
quiet-maker s (Made v mode a) w = go (leb (processors s) v.0) refl
  where
    go : (b : Bool) → leb (processors s) v.0 ≡ b → (b || ltb (active s v.0) 4) ≡ true
    go true e = refl
    go false e = lt-ltb _ 4 (level-low _ _ (active-level s w v.0 (is-processor s w v.0 e)))
quiet-maker s (Int u g n) w = refl

-- One step, from the state and from what is part of it.
plain_step : (s : State) (e : Event) → well_formed s ≡ true → step (plain s) e ≡ hide_outcome 4 (λ l. false) (λ p. false) (step s e)
unfolding plain
plain_step s e w = step-hide 4 (λ l. false) (λ p. false) (omega arith) s
    (record { modes = well-moded s w; grown = λ l h. absurd (false≢true h); pages = λ p h. refl }) e (quiet-maker s e w)

record Goes (s : State) (lines : List (List ℕ)) : Type 0 where
  records : told (plain s) lines ≡ told s lines
  state : later_state (plain s) lines ≡ plain (later_state s lines)

-- What is answered to one line, and what follows.
goes-line : (s : State) (said : Result Event Refusal) (more : List (List ℕ)) → well_formed s ≡ true
    → ((t : State) → well_formed t ≡ true → Goes t more)
    → (told_by (answered (plain s) said) ∷ told (answered (plain s) said).next more ≡ told_by (answered s said) ∷ told (answered s said).next more)
    × (later_state (answered (plain s) said).next more ≡ plain (later_state (answered s said).next more))
goes-line s (Err refusal) more w rest = let r = rest s w in (rw r.records, r.state)
goes-line s (Ok e) more w rest =
    let r = rest (step s e).next (step_keeps s e w) in
    let on : active (plain (step s e).next) (processor_of e).0 ≡ active (step s e).next (processor_of e).0 = unfold plain in active-hide 4 (λ l. false) (λ p. false) (step s e).next (processor_of e).0 in
    let same : step (plain s) e ≡ record { answer = (step s e).answer; next = plain (step s e).next } = unfold plain in plain_step s e w in
    (rw (same, on, r.records), rw same r.state)

goes : (s : State) (lines : List (List ℕ)) → well_formed s ≡ true → Goes s lines
unfolding told later_state
goes s [] w = record { records = refl; state = refl }
goes s (line ∷ more) w =
    let r = goes-line s (line_event line) more w (λ t v. goes t more v) in
    record { records = r.0; state = r.1 }

-- Reading back what was written, and going on.
pub passing : Passing
unfolding resumed
passing s script w sized =
    let g = goes s (lines script) w in
    record {
      records = rw (read_back s w sized script, numbered-records 1 (plain s) (lines script), g.records);
      state = g.state;
    }
