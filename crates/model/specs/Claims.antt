-- What is proved of the definitions, each once for all events and states (proofs/). Assumes nothing.
use Rattle.std.specs.Prelude.{◌≡◌, Bool, true, false, not, ◌&&◌, ◌||◌, List, [], ◌∷◌, map, ℕ, ◌^◌, ◌≤◌, ◌<◌, leb, eqb, length, get_or}
use Rattle.std.specs.Bool.{beq}
use Rattle.std.proofs.Math.Option.{some}
use Rattle.word.specs.RegisterFields.{position_of}
use Rattle.model.specs.Arrays.{number_at}
use Rattle.model.specs.Answers.{Answer, Refusal, number_of, value_of, ◌when◌}
use Rattle.model.specs.Cases.{cases, given, expected}
use Rattle.model.specs.Entry.{enter, enters, is_ready, highest_ready, top_vector, waiting, by_interrupt}
use Rattle.model.specs.Fresh.{admissible, fresh}
use Rattle.model.specs.Registers.{rflags, rax, register_of}
use Rattle.model.specs.State.{State, Context, FirstLine, Shape, VirtualProcessor, processors, active, enabled_on, is_pending}
use Rattle.model.specs.Updates.{on_vp, set_private, set_register}
use Rattle.model.specs.Step.{Event, Outcome, rule, maker, step}
use Rattle.model.specs.Watching.{WatchedAccess, reads, not_modelled, watch_table, intercept_control_number, asked_in}
use Rattle.model.specs.WellFormed.{well_formed}

-- All conditions on which an event is refused or intercepted.
abbrev pub conditions : State → Event → List (Answer × Bool)
conditions s e = Refusal.NotWellFormed when not (well_formed s) ∷ (rule s e).refusals

-- The numbers of a list of conditions rise from n on.
abbrev pub rises : ℕ → List (Answer × Bool) → Bool
rises n [] = true
rises n (c ∷ cs) = leb n (number_of c.0) && rises (number_of c.0) cs

-- A condition of number n applies.
abbrev pub applies : ℕ → List (Answer × Bool) → Bool
applies n [] = false
applies n (c ∷ cs) = eqb (number_of c.0) n && c.1 || applies n cs

-- The refusals of every event rise.
abbrev pub Rising : Type 0
Rising = (s : State) (e : Event) → rises 1 (conditions s e) ≡ true

-- Where several apply, the smallest number is given: a number above 0 applies, and is at most each that applies.
pub record Smallest (s : State) (e : Event) : Type 0 where
  pub applying : (number_of (step s e).answer ≡ 0 → ⊥) → applies (number_of (step s e).answer) (conditions s e) ≡ true
  pub least : (n : ℕ) → applies n (conditions s e) ≡ true → (1 ≤ number_of (step s e).answer) × (number_of (step s e).answer ≤ n)

-- Demand 1: at 1..8 and 10..13 state and lent words stay the same, and the value is 0.
abbrev pub Unchanged : Type 0
Unchanged = (s : State) (e : Event) → (number_of (step s e).answer ≡ 0 → ⊥) → (number_of (step s e).answer ≡ 9 → ⊥) → ((step s e).next ≡ s) × (value_of (step s e).answer ≡ 0)

-- Demand 1: at 9 the maker's processor enters the receiver, which is enabled there and above the actor, and nothing else
-- changes. The value is the receiver.
pub record Entered (s : State) (e : Event) (o : Outcome) : Type 0 where
  pub v : ℕ
  pub made : maker e ≡ some v
  pub inside : v < processors s
  pub enabled : enabled_on s v (value_of o.answer) ≡ true
  pub above : active s v < value_of o.answer
  pub only : o.next ≡ on_vp s v (λ z p. enter z p (value_of o.answer) by_interrupt)

abbrev pub OnlyEntered : Type 0
OnlyEntered = (s : State) (e : Event) → number_of (step s e).answer ≡ 9 → Entered s e (step s e)

-- The fresh machine of every admissible first line is well formed.
abbrev pub FreshWellFormed : Type 0
FreshWellFormed = (f : FirstLine) → admissible f ≡ true → well_formed (fresh f) ≡ true

-- A step from a well-formed state leads to one.
abbrev pub StepKeeps : Type 0
StepKeeps = (s : State) (e : Event) → well_formed s ≡ true → well_formed (step s e).next ≡ true

-- Registers 13 to 31 are shared by all levels of a processor, XMM0 among them: what one level writes, every level reads.
abbrev pub SharedByAll : Type 0
SharedByAll = (z : Shape) (p : VirtualProcessor) (l m r x : ℕ) → length p.shared ≡ 20 → rax ≤ r → r ≤ 31 → register_of z (set_register z p l r x) m r ≡ x

-- RFLAGS.IF plays no part (001): whatever RFLAGS a level has, an interrupt enters the same level, and so does a return.
abbrev pub FlagsPlayNoPart : Type 0
FlagsPlayNoPart = (z : Shape) (p : VirtualProcessor) (l x g n : ℕ) → (enters z (set_private z p l rflags x) g n ≡ enters z p g n) × (waiting z (set_private z p l rflags x) ≡ waiting z p)

-- 02, request 4: the vector of the top set bit of the top non-zero word, if ready, is the highest ready one, and else none is: no vector that is
-- pending is ready. It holds for every TPR class and for every four words of 64 bits.
pub record TopVectorDecides (c : Context) : Type 0 where
  pub ready : is_ready c (top_vector c.pending) ≡ true → highest_ready c ≡ top_vector c.pending
  pub none : is_ready c (top_vector c.pending) ≡ false → (n : ℕ) → is_pending c n ≡ true → is_ready c n ≡ false

abbrev pub TopVector : Type 0
TopVector = (c : Context) → ((i : ℕ) → i < 4 → number_at 4 c.pending i < 2 ^ 64) → TopVectorDecides c

-- 02, request 6: row i of the table is the i-th named bit of 001's intercept control word. That bit alone asks for the row's access to its register, one of
-- ours, and for no other; a bit whose register we do not model asks for none.
abbrev pub row : ℕ → WatchedAccess
row i = get_or watch_table i (reads 0 not_modelled)

pub record RowDecides (i : ℕ) : Type 0 where
  pub named : (row i).position ≡ position_of intercept_control_number i
  pub asks : (r : ℕ) (write : Bool) → r ≤ 31 → asked_in watch_table (2 ^ i) r write ≡ (eqb (row i).register r && beq (row i).write write)

abbrev pub TableDecides : Type 0
TableDecides = (i : ℕ) → i < 25 → RowDecides i

-- The eight proved cases.
abbrev pub AllGiven : Type 0
AllGiven = map given cases ≡ map expected cases
