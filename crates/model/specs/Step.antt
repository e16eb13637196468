-- One step, and a run over a list of events. Assumes nothing.
use Rattle.std.specs.Prelude.{cond, List, [], ◌∷◌, ℕ, leb, ltb, eqb}
use Rattle.std.proofs.Math.Option.{Option, none, some}
pub use Rattle.model.specs.declared.event.Action.{Action}
pub use Rattle.model.specs.declared.event.Action.TheVariants.{Enpart, Envp, Call, Ret, Read, Write, Fetch, Protect, Config, Secure, Flush, Rreg, Wreg, Tpr, Ack, Pstat, Vstat, Caps, Cri, Crm}
pub use Rattle.model.specs.declared.event.Event.{Event}
pub use Rattle.model.specs.declared.event.Event.TheVariants.{Made, Int}
use Rattle.model.specs.Answers.{Answer, Done, Refused, Intercept, Refusal, ◌when◌, first_of}
use Rattle.model.specs.Entry.{enter, by_interrupt}
use Rattle.model.specs.Events.{Rule, enpart, envp, call, ret, read, write, fetch, protect, config, secure, flush, rreg, wreg, tpr, ack, int, pstat, vstat, caps, cri, crm}
use Rattle.model.specs.State.{State, Mode, processors}
use Rattle.model.specs.Updates.{on_vp}
use Rattle.model.specs.WellFormed.{well_formed}

-- The rule of what a level does on processor v in a mode.
unfoldable pub rule_of : State → ℕ → Mode → Action → Rule
rule_of s v mode (Enpart t mbec) = enpart s v mode t.0 mbec
rule_of s v mode (Envp w t ip sp cr) = envp s v mode w.0 t.0 ip sp cr
rule_of s v mode (Call len) = call s v mode len
rule_of s v mode (Ret len) = ret s v mode len
rule_of s v mode (Read p) = read s v mode p.0
rule_of s v mode (Write p x) = write s v mode p.0 x
rule_of s v mode (Fetch p) = fetch s v mode p.0
rule_of s v mode (Protect p k) = protect s v mode p.0 k
rule_of s v mode (Config g w) = config s v mode g.0 w
rule_of s v mode (Secure l w) = secure s v mode l.0 w
rule_of s v mode Flush = flush s v mode
rule_of s v mode (Rreg g r) = rreg s v mode g.0 r
rule_of s v mode (Wreg g r x) = wreg s v mode g.0 r x
rule_of s v mode (Tpr class) = tpr s v mode class
rule_of s v mode Ack = ack s v mode
rule_of s v mode Pstat = pstat s v mode
rule_of s v mode Vstat = vstat s v mode
rule_of s v mode Caps = caps s v mode
rule_of s v mode (Cri word) = cri s v mode word
rule_of s v mode (Crm n mask) = crm s v mode n mask

-- Mode 0 is kernel, 1 user.
abbrev pub mode_of : ℕ → Mode
mode_of mode = cond (eqb mode 1) Mode.User Mode.Kernel

-- The rule of an event. For one that a level makes there is, first of all, such a processor and such a mode.
unfoldable pub rule : State → Event → Rule
rule s (Made v mode a) = let r = rule_of s v.0 (mode_of mode) a in record {
  refusals = Refusal.NoSuchProcessor when leb (processors s) v.0 ∷ Refusal.NoSuchMode when ltb 1 mode ∷ r.refusals;
  value = r.value;
  effect = r.effect;
}
rule s (Int w g n) = int s w.0 g.0 n

-- An event's maker is its v; an event without v has none.
unfoldable pub maker : Event → Option ℕ
maker (Made v mode a) = some v.0
maker (Int w g n) = none

-- At 9 the processor enters the receiver, reason 2, and nothing else changes.
unfoldable pub intercepted : State → Option ℕ → ℕ → State
intercepted s none l = s
intercepted s (some v) l = on_vp s v (λ z p. enter z p l by_interrupt)

-- The next state for an answer: the effect of an event that is done. State and lent words stay the same at 1..8 and 10..13.
unfoldable pub next_for : Answer → State → Option ℕ → State → State
next_for (Done x) s by effect = effect
next_for (Refused r) s by effect = s
next_for (Intercept l) s by effect = intercepted s by l.0

-- An answer and the next state.
pub record Outcome : Type 0 where
  pub answer : Answer
  pub next : State

-- What a rule gives: the first refusal that applies, or else the event is done.
abbrev pub answer_by : Rule → Answer
answer_by r = first_of r.refusals (Done r.value)

abbrev pub outcome : State → Option ℕ → Rule → Outcome
outcome s by r = record { answer = answer_by r; next = next_for (answer_by r) s by r.effect }

-- What the rule of an event gives for any state, and what the rule of an action does, made on processor v in a mode.
unfoldable pub ruled : State → Event → Outcome
ruled s e = outcome s (maker e) (rule s e)

unfoldable pub acted : State → ℕ → Mode → Action → Outcome
acted s v mode a = outcome s (some v) (rule_of s v mode a)

-- One event: a state that is not well formed gets answer 1.
unfoldable pub step : State → Event → Outcome
step s e = cond (well_formed s) (ruled s e) (record { answer = Refused Refusal.NotWellFormed; next = s })

-- A run: each event gets the state and page words that the last one left.
unfoldable pub answers : State → List Event → List Answer
answers s [] = []
answers s (e ∷ es) = (step s e).answer ∷ answers (step s e).next es

unfoldable pub final : State → List Event → State
final s [] = s
final s (e ∷ es) = final (step s e).next es
