-- Demand 3 as one statement; that a run keeps a state well formed; and that a level guards its processors along a run. docs/ISOLATION.md goes through it phrase by phrase.
-- Assumes nothing.
use Rattle.std.specs.Prelude.{◌≡◌, Bool, true, false, ◌&&◌, List, [], ◌∷◌, ℕ, ◌≤◌}
use Rattle.model.specs.declared.event.Event.{Event}
use Rattle.model.specs.Registers.{is_private, private_of}
use Rattle.model.specs.State.{State, shape, vp, enabled_on, enabled_anywhere, word_of}
use Rattle.model.specs.Step.{maker, step, answers, final}
use Rattle.model.specs.WellFormed.{well_formed}
use Rattle.model.specs.Hide.{closed, hides, hide, quiet_maker}

-- A run from a well-formed state leads to one, as each step does (`StepKeeps` of `model`).
abbrev pub RunKeeps : Type 0
RunKeeps = (s : State) (es : List Event) → well_formed s ≡ true → well_formed (final s es) ≡ true

-- No processor makes an event while K or higher is active on it: asked of each event, just before it, in the run from s.
unfoldable pub quiet : ℕ → State → List Event → Bool
quiet K s [] = true
quiet K s (e ∷ es) = quiet_maker K s (maker e) && quiet K (step s e).next es

-- A level guards its own processors (02, request 5): where no level from K up makes an event, a level from K up that is enabled on some processor is enabled on no
-- further one.
abbrev pub Guarded : Type 0
Guarded = (K : ℕ) (s : State) (es : List Event) → 1 ≤ K → quiet K s es ≡ true → (v l : ℕ) → K ≤ l → enabled_anywhere s l ≡ true → enabled_on (final s es) v l ≡ enabled_on s v l

-- Hiding every level from K up: none counts as first enabled.
abbrev pub every_level : ℕ → Bool
every_level l = true

-- a and b are alike in all but private registers of levels from K up and words of the pages that are closed in s.
abbrev pub Alike : ℕ → State → State → State → Type 0
Alike K s a b = hide K every_level (closed K s) a ≡ hide K every_level (closed K s) b

-- What is hidden at the start s stands in a as it began, save the registers of a level that was enabled on no processor and is enabled there.
pub record Kept (K : ℕ) (s a : State) : Type 0 where
  pub registers : (v l r : ℕ) → is_private (shape s) r ≡ true → hides K (enabled_anywhere s l) l (enabled_on a v l) ≡ true →
      private_of (shape a) (vp a v) l r ≡ private_of (shape s) (vp s v) l r
  pub pages : (p : ℕ) → closed K s p ≡ true → word_of a p ≡ word_of s p

-- What the runs from s and t over a list of events have in common.
pub record Isolated (K : ℕ) (s t : State) (es : List Event) : Type 0 where
  -- equal answers, event by event
  pub same : answers s es ≡ answers t es
  -- alike after the list
  pub alike : Alike K s (final s es) (final t es)
  -- the registers of a level that the run first enables on a processor, having been enabled on none, are equal in both
  pub first : (v l r : ℕ) → is_private (shape s) r ≡ true → enabled_anywhere s l ≡ false → enabled_on (final s es) v l ≡ true →
      private_of (shape (final s es)) (vp (final s es) v) l r ≡ private_of (shape (final t es)) (vp (final t es) v) l r
  -- in each state the two things are as they began
  pub kept : Kept K s (final s es)
  pub kept' : Kept K t (final t es)

abbrev pub Isolation : Type 0
Isolation = (K : ℕ) (s t : State) (es : List Event) → 1 ≤ K → well_formed s ≡ true → well_formed t ≡ true → Alike K s s t → quiet K s es ≡ true →
    Isolated K s t es
