-- The line of each event and of a first line: its word, and its numbers in the order of its form.
-- Assumes nothing.
use Rattle.std.specs.Prelude.{List, [], ◌∷◌, ◌++◌, map, ℕ, ◌<◌, ◌^◌}
use Rattle.decimal.specs.Write.{decimal}
use Rattle.script.specs.EventForms.{Action, Enpart, Envp, Call, Ret, Read, Write, Fetch, Protect, Config, Secure, Flush, Rreg, Wreg, Tpr, Ack, Pstat, Vstat, Caps, Cri, Crm}
use Rattle.script.specs.EventForms.{Event, Made, Int, by_level, enpart, envp, call, ret, read, write, fetch, protect, config, secure, flush, rreg, wreg, tpr, ack, int, pstat, vstat, caps, cri, crm}
use Rattle.script.specs.First.{FirstLine, vsm, vsm_short}
use Rattle.script.specs.LineForms.{Form, tab}

-- Fields, each after a tab.
unfoldable pub parted : List (List ℕ) → List ℕ
parted [] = []
parted (field ∷ more) = tab ∷ field ++ parted more

-- A line is its fields put together, one tab between two.
abbrev pub together : List (List ℕ) → List ℕ
together [] = []
together (word ∷ more) = word ++ parted more

-- A line as its form and its numbers.
pub record Text (A : Type 0) : Type 0 where
  pub form : Form A
  pub numbers : List ℕ

-- The word of the form, and the numbers in decimal.
unfoldable pub written : {A : Type 0} → Text A → List ℕ
written text = text.form.word ++ parted (map decimal text.numbers)

abbrev pub text : {A : Type 0} → Form A → List ℕ → Text A
text form numbers = record { form = form; numbers = numbers }

-- What a level does, and the line of an event; numbers stand in the order of 01 and 02.
unfoldable pub action_text : Action → Text Action
action_text (Enpart t mbec) = text enpart (t.0 ∷ mbec ∷ [])
action_text (Envp w t rip rsp cr0) = text envp (w.0 ∷ t.0 ∷ rip ∷ rsp ∷ cr0 ∷ [])
action_text (Call len) = text call (len ∷ [])
action_text (Ret len) = text ret (len ∷ [])
action_text (Read p) = text read (p.0 ∷ [])
action_text (Write p x) = text write (p.0 ∷ x ∷ [])
action_text (Fetch p) = text fetch (p.0 ∷ [])
action_text (Protect p mask) = text protect (p.0 ∷ mask ∷ [])
action_text (Config g word) = text config (g.0 ∷ word ∷ [])
action_text (Secure l word) = text secure (l.0 ∷ word ∷ [])
action_text Flush = text flush []
action_text (Rreg g r) = text rreg (g.0 ∷ r ∷ [])
action_text (Wreg g r x) = text wreg (g.0 ∷ r ∷ x ∷ [])
action_text (Tpr class) = text tpr (class ∷ [])
action_text Ack = text ack []
action_text Pstat = text pstat []
action_text Vstat = text vstat []
action_text Caps = text caps []
action_text (Cri word) = text cri (word ∷ [])
action_text (Crm n mask) = text crm (n ∷ mask ∷ [])

unfoldable pub event_text : Event → Text Event
event_text (Made v mode a) = text (by_level (action_text a).form) (v.0 ∷ mode ∷ (action_text a).numbers)
event_text (Int w g vector) = text int (w.0 ∷ g.0 ∷ vector ∷ [])

unfoldable pub event_line : Event → List ℕ
event_line e = written (event_text e)

-- The first line for what a machine is made from.
unfoldable pub first_text : FirstLine → Text FirstLine
first_text first =
    text vsm (first.processors ∷ first.max_level.0 ∷ first.pages ∷ first.dr6_shared ∷ first.host_mask ∷ first.smep ∷ [])

unfoldable pub first_line_of : FirstLine → List ℕ
first_line_of first = written (first_text first)

-- The same without the field for SMEP.
unfoldable pub short_first_text : FirstLine → Text FirstLine
short_first_text first =
    text vsm_short (first.processors ∷ first.max_level.0 ∷ first.pages ∷ first.dr6_shared ∷ first.host_mask ∷ [])

unfoldable pub short_first_line_of : FirstLine → List ℕ
short_first_line_of first = written (short_first_text first)

-- Numbers are 0 to 2^64-1.
abbrev pub Numbers : List ℕ → Type 0
Numbers [] = Unit {0}
Numbers (n ∷ numbers) = (n < 2 ^ 64) × Numbers numbers
