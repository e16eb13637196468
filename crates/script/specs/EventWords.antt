-- The event words as the code finds them: the form of each, and the word that a line begins with.
-- Assumes nothing.
use Rattle.std.specs.Prelude.{cond, List, [], ◌∷◌, map, None, Option, ℕ, Some, length}
use Rattle.script.specs.Bytes.{begun}
use Rattle.script.specs.EventForms.{Action, Event, by_level, enpart, envp, call, ret, read, write, fetch, protect, config, secure, flush, rreg, wreg, tpr, ack, int, pstat, vstat, caps, cri, crm}
use Rattle.script.specs.LineForms.{Form, made}
use Rattle.script.specs.declared.words.Named.{Named}
use Rattle.script.specs.declared.words.Word.{Word}
use Rattle.script.specs.declared.words.Word.TheVariants.{Interrupt, Made}
use Rattle.script.specs.declared.words.ActionWord.{ActionWord}
use Rattle.script.specs.declared.words.ActionWord.TheVariants.{Enpart, Envp, Call, Ret, Read, Write, Fetch, Protect, Config, Secure, Flush, Rreg, Wreg, Tpr, Ack, Pstat, Vstat, Caps, Cri, Crm}

-- The form of what a level does, by its word, and of an event.
abbrev pub action_form : ActionWord → Form Action
action_form Enpart = enpart
action_form Envp = envp
action_form Call = call
action_form Ret = ret
action_form Read = read
action_form Write = write
action_form Fetch = fetch
action_form Protect = protect
action_form Config = config
action_form Secure = secure
action_form Flush = flush
action_form Rreg = rreg
action_form Wreg = wreg
action_form Tpr = tpr
action_form Ack = ack
action_form Pstat = pstat
action_form Vstat = vstat
action_form Caps = caps
action_form Cri = cri
action_form Crm = crm

abbrev pub form_of : Word → Form Event
form_of (Made word) = by_level (action_form word)
form_of Interrupt = int

-- The twenty-one words.
abbrev pub action_words : List ActionWord
action_words =
    Enpart ∷ Envp ∷ Call ∷ Ret ∷ Read ∷ Write ∷ Fetch ∷ Protect ∷ Config ∷ Secure ∷ Flush ∷ Rreg ∷ Wreg ∷ Tpr ∷ Ack ∷ Pstat ∷ Vstat ∷ Caps ∷ Cri ∷ Crm ∷ []

abbrev pub words : List Word
words = Interrupt ∷ map Made action_words

-- Those that begin with c.
abbrev pub words_with_c : List Word
words_with_c = map Made (Call ∷ Config ∷ Caps ∷ Cri ∷ Crm ∷ [])

-- A word, where it ends, and how many numbers its event takes.
abbrev pub named : Word → ℕ → ℕ → Option Named
named word end takes = Some (record { word = word; end = end; takes = takes })

abbrev pub naming : Word → Option Named
naming word = named word (length (form_of word).word) (form_of word).count

-- The word, of some, that a line begins with.
abbrev pub named_among : List Word → List ℕ → Option Named
named_among [] line = None
named_among (word ∷ more) line = cond (begun line (form_of word).word) (naming word) (named_among more line)

-- What a level does by a word, from the third number on, and the event of a word.
abbrev pub action_of : ActionWord → List ℕ → Action
action_of word numbers = made (action_form word).count (action_form word).value 2 numbers

abbrev pub event_of : Word → List ℕ → Event
event_of word numbers = made (form_of word).count (form_of word).value 0 numbers
