-- An event whose processor or mode is not there is refused; with both it is what its action does. Assumes nothing.
use mathlib.Core.Path.{◌≡◌, refl, sym, ◌∙◌}
use mathlib.Core.Bool.{Bool, true, false, false≢true}
use mathlib.Core.Option.{none, some}
use Prim.Native.Nat.{ℕ, ◌≤◌, ◌<◌}
use lib.Dec.{leb, ltb}
use native.Mathlib.Omega.{arith}
use borrow.Author.Tests.{leb-false, lt-ltb, lt-leb, ltb-true}
use Rattle.model.proofs.Bools.{and_left}
use Rattle.model.specs.declared.answer.Answer.TheVariants.{Refused}
use Rattle.model.specs.declared.answer.Refusal.{Refusal}
use Rattle.model.specs.declared.event.Event.TheVariants.{Made, Int}
use Rattle.model.specs.declared.event.Action.{Action}
use Rattle.model.specs.declared.event.Action.TheVariants.{Envp}
use Rattle.model.specs.declared.quantity.Level.{Level}
use Rattle.model.specs.declared.quantity.Mode.{Mode}
use Rattle.model.specs.declared.quantity.Processor.{Processor}
use Rattle.model.specs.Answers.{first_of}
use Rattle.model.specs.State.{State, processors, is_index}
use Rattle.model.specs.Step.{rule, rule_of, maker, mode_of, acted, ruled}
use Rattle.promise.proofs.Outcomes.{refused}
use Rattle.promise.specs.Promise.{outcome_of}

module _ (s : State) where
  within : (v : ℕ) → is_index (processors s) v ≡ true → leb (processors s) v ≡ false
  within v h = lt-leb (processors s) v (ltb-true v (processors s) (and_left (ltb v (processors s)) (ltb v 4) h))

  -- A processor and a mode that are there.
  pub made : (v : Processor) (mode : ℕ) (a : Action) → is_index (processors s) v.0 ≡ true → ltb 1 mode ≡ false → acted s v.0 (mode_of mode) a ≡ ruled s (Made v mode a)
  unfolding acted ruled rule maker first_of
  made v mode a k m = rw (within v.0 k, m)

  pub no_mode : (v : Processor) (mode : ℕ) (a : Action) → is_index (processors s) v.0 ≡ true → ltb 1 mode ≡ true → outcome_of (Refused Refusal.NoSuchMode) s ≡ ruled s (Made v mode a)
  unfolding ruled rule maker first_of
  no_mode v mode a k h = sym (refused s (some v.0) (rule s (Made v mode a)) (rw (within v.0 k, h)))

  module _ (most : processors s ≤ 4) where
    beyond : (v : ℕ) → is_index (processors s) v ≡ false → leb (processors s) v ≡ true
    beyond v h = go (leb (processors s) v) refl
      where
        go : (b : Bool) → leb (processors s) v ≡ b → b ≡ true
        go true e = refl
        go false e =
            let below : v < processors s = leb-false (processors s) v e in
            absurd (false≢true (sym h ∙ rw (lt-ltb v (processors s) below, lt-ltb v 4 (omega (arith, below)))))

    pub no-maker : (v : Processor) (mode : ℕ) (a : Action) → is_index (processors s) v.0 ≡ false → outcome_of (Refused Refusal.NoSuchProcessor) s ≡ ruled s (Made v mode a)
    unfolding ruled rule maker first_of
    no-maker v mode a h = sym (refused s (some v.0) (rule s (Made v mode a)) (rw (beyond v.0 h)))

    -- int and envp name a processor as their target.
    pub no-interrupted : (w : Processor) (g : Level) (n : ℕ) → is_index (processors s) w.0 ≡ false → outcome_of (Refused Refusal.NoSuchTarget) s ≡ ruled s (Int w g n)
    unfolding ruled rule maker first_of
    no-interrupted w g n h = sym (refused s none (rule s (Int w g n)) (rw (beyond w.0 h)))

    pub no_second : (v : ℕ) (mode : Mode) (w : Processor) (t : Level) (ip sp cr : ℕ) → is_index (processors s) w.0 ≡ false → outcome_of (Refused Refusal.NoSuchTarget) s ≡ acted s v mode (Envp w t ip sp cr)
    unfolding acted rule_of first_of
    no_second v mode w t ip sp cr h = sym (refused s (some v) (rule_of s v mode (Envp w t ip sp cr)) (rw (beyond w.0 h)))
