-- An access to a page: the event of each kind, and what a state is after it. Assumes nothing.
use Rattle.std.specs.Prelude.{List, ℕ, set}
use Rattle.model.specs.declared.event.Action.{Action}
use Rattle.model.specs.declared.event.Action.TheVariants as action
use Rattle.model.specs.declared.machine.VirtualProcessor.{VirtualProcessor}
use Rattle.model.specs.declared.quantity.Access.{Access}
use Rattle.model.specs.declared.quantity.Access.TheVariants.{Read, Write, Fetch}
use Rattle.model.specs.declared.quantity.Page.{Page}
use Rattle.model.specs.State.{State}
use Rattle.model.specs.Updates.{put_vp}

-- What a level does by a kind of access; x is the word that a write stores.
abbrev pub accessed : Access → Page → ℕ → Action
accessed Read p x = action.Read p
accessed Write p x = action.Write p x
accessed Fetch p x = action.Fetch p

-- The value of an access that is done, with the page's word, and the words after it.
abbrev pub access_value : Access → ℕ → ℕ
access_value Read word = word
access_value Write word = 0
access_value Fetch word = 0

abbrev pub words_done : List ℕ → ℕ → Access → ℕ → List ℕ
words_done words page Read x = words
words_done words page Write x = set words page x
words_done words page Fetch x = words

-- A state with another record of processor v and other words.
abbrev pub put_access : State → ℕ → VirtualProcessor → List ℕ → State
put_access s v p words = record { machine = (put_vp s v p).machine; words = words }
