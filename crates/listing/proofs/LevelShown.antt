-- What is shown of the answer to an event, as code has it: the level column is read from the processor's place in the next state. Assumes
-- nothing.
use Rattle.std.specs.Prelude.{Ok}
use mathlib.Core.Bool.{Bool, true, false, cond}
use mathlib.Core.Path.{◌≡◌, refl, ap, ◌∙◌}
use Prim.Native.Nat.{ℕ, ◌%◌}
use borrow.Author.Tests.{ltb-true}
use native.Mathlib.Omega.{arith}
use lib.Dec.{eqb, ltb}
use lib.ListN.{get_or}
use Rattle.model.proofs.Bools.{and_right}
use Rattle.model.specs.Answers.{number_of, value_of}
use Rattle.model.specs.LevelColumn.{level_column, processor_of}
use Rattle.model.specs.State.{State, active, active_of, is_index, is_processor, level, no_vp, past_vp, processors, vp}
use Rattle.model.specs.Step.{Outcome, step}
use Rattle.model.specs.declared.answer.Answer.{Answer}
use Rattle.model.specs.declared.event.Event.{Event}
use Rattle.model.specs.declared.quantity.Level.{Level}
use Rattle.model.specs.declared.quantity.Processor.{Processor}
use Rattle.listing.specs.Answer.{level_on, level_shown, shown_by, shown_of}
use Rattle.listing.specs.Listing.{answered}

-- The level that is active on a processor, as the code reads it.
active-read : (s : State) (v : Processor)
    → level_on v s.machine.processors (get_or s.machine.vps (v.0 % 4) past_vp).active ≡ level (active s v.0)
unfolding active active_of vp is_processor processors
active-read s v = go (is_index s.machine.processors v.0) refl
  where
    go : (t : Bool) → is_index s.machine.processors v.0 ≡ t
        → cond t (get_or s.machine.vps (v.0 % 4) past_vp).active (level 0) ≡ level (cond t (get_or s.machine.vps v.0 past_vp) no_vp).active.0
    go true e = let h : v.0 % 4 ≡ v.0 = omega (arith, ltb-true v.0 4 (and_right (ltb v.0 s.machine.processors) (ltb v.0 4) e)) in rw h
    go false e = refl

-- The level column of an answer, as the code has it.
pub level-column : (number active : ℕ) → level_shown number (level active) ≡ level (cond (eqb number 1) 0 active)
level-column number active = go (eqb number 1)
  where
    go : (t : Bool) → cond t (level 0) (level active) ≡ level (cond t 0 active)
    go true = refl
    go false = refl

-- An event on a machine.
pub event-shown : (s next : State) (e : Event) (a : Answer) → record { answer = a; next = next } ≡ step s e
    → (v : Processor) → v ≡ processor_of e
    → (on : Level) → on ≡ level_on v next.machine.processors (get_or next.machine.vps (v.0 % 4) past_vp).active
    → shown_of a on ≡ shown_by (answered s (Ok e))
event-shown s next e a stepped v here on there =
    let column : level_shown (number_of a) on ≡ level (level_column (record { answer = a; next = next }) (processor_of e)) =
    rw (there, active-read next v, ← here) (level-column (number_of a) (active next v.0)) in
    ap (λ (l : Level). record { answer = number_of a; value = value_of a; level = l }) column
    ∙ ap (λ (o : Outcome). record { answer = number_of o.answer; value = value_of o.answer; level = level (level_column o (processor_of e)) }) stepped
