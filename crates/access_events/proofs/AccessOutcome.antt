-- What an access leaves, by its answer. Assumes nothing.
use mathlib.Core.Path.{◌≡◌, refl, sym, ap, ◌∙◌}
use mathlib.Core.Bool.{true}
use mathlib.Core.List.{List}
use mathlib.Core.Option.{some}
use Prim.Native.Nat.{ℕ}
use Rattle.model.specs.declared.answer.Answer.{Answer}
use Rattle.model.specs.declared.answer.Answer.TheVariants.{Done, Refused, Intercept}
use Rattle.model.specs.declared.machine.Shape.{Shape}
use Rattle.model.specs.declared.machine.VirtualProcessor.{VirtualProcessor}
use Rattle.model.specs.declared.quantity.Access.{Access}
use Rattle.model.specs.declared.quantity.Access.TheVariants.{Read, Write, Fetch}
use Rattle.model.specs.declared.quantity.Mode.{Mode}
use Rattle.model.specs.declared.quantity.Page.{Page}
use Rattle.model.specs.Answers.{first_of}
use Rattle.model.specs.Entry.{enter, by_interrupt}
use Rattle.model.specs.Events.{by_access}
use Rattle.model.specs.State.{State, shape, vp, is_processor, word_of}
use Rattle.model.specs.Step.{rule_of, intercepted, next_for, acted}
use Rattle.model.specs.Updates.{put_vp, set_word, on_vp}
use Rattle.promise.proofs.Outcomes.{put-own}
use Rattle.promise.specs.Promise.{outcome_of}
use Rattle.access_events.specs.Access.{accessed, access_value, words_done, put_access}

-- The record of the maker's processor after an answer: an intercept enters its receiver.
abbrev entered_by : Shape → VirtualProcessor → Answer → VirtualProcessor
entered_by z p (Done x) = p
entered_by z p (Refused r) = p
entered_by z p (Intercept l) = enter z p l.0 by_interrupt

-- The words after an answer: new ones where the access is done.
abbrev if_done : Answer → List ℕ → List ℕ → List ℕ
if_done (Done x) new old = new
if_done (Refused r) new old = old
if_done (Intercept l) new old = old

module _ (s : State) (v : ℕ) (mode : Mode) (page : Page) (x : ℕ) (h : is_processor s v ≡ true) (kind : Access) where
  abbrev before : Answer
  before = first_of (by_access s v mode page.0 kind) (Done (access_value kind (word_of s page.0)))

  answer-of : (k : Access) → (acted s v mode (accessed k page x)).answer ≡ first_of (by_access s v mode page.0 k) (Done (access_value k (word_of s page.0)))
  unfolding acted rule_of
  answer-of Read = refl
  answer-of Write = refl
  answer-of Fetch = refl

  effect_of : (k : Access) → (rule_of s v mode (accessed k page x)).effect ≡ record { machine = s.machine; words = words_done s.words page.0 k x }
  unfolding rule_of set_word
  effect_of Read = refl
  effect_of Write = refl
  effect_of Fetch = refl

  own : s.machine ≡ (put_vp s v (vp s v)).machine
  own = ap (λ (t : State). t.machine) (sym (put-own s v h))

  next_of : (a : Answer) → next_for a s (some v) (rule_of s v mode (accessed kind page x)).effect ≡ put_access s v (entered_by (shape s) (vp s v) a) (if_done a (words_done s.words page.0 kind x) s.words)
  unfolding next_for intercepted on_vp put_vp
  next_of (Done y) = effect_of kind ∙ ap (λ m. record { machine = m; words = words_done s.words page.0 kind x }) own
  next_of (Refused r) = ap (λ m. record { machine = m; words = s.words }) own
  next_of (Intercept l) = refl

  pub access-outcome : (a : Answer) → before ≡ a
      → acted s v mode (accessed kind page x) ≡ outcome_of a (put_access s v (entered_by (shape s) (vp s v) a) (if_done a (words_done s.words page.0 kind x) s.words))
  unfolding acted
  access-outcome a q = rw (← next_of a, ← q, ← answer-of kind)
