-- The lines of the twenty-one events (01, "Events"; 02, request 6): each event's word and its fields, in the order of the page.
-- An event carries its numbers as given: the event's rule refuses those out of range. Assumes nothing.
use Rattle.std.specs.Prelude.{List, [], ◌∷◌, map, ℕ, zero, suc, Err, Ok, Result}
use Rattle.model.specs.State.{level}
pub use Rattle.model.specs.declared.event.Action.{Action}
pub use Rattle.model.specs.declared.event.Event.{Event}
pub use Rattle.model.specs.declared.event.Action.TheVariants.{Enpart, Envp, Call, Ret, Read, Write, Fetch, Protect, Config, Secure, Flush, Rreg, Wreg, Tpr, Ack, Pstat, Vstat, Caps, Cri, Crm}
pub use Rattle.model.specs.declared.event.Event.TheVariants.{Made, Int}
use Rattle.model.specs.declared.quantity.Page.{Page}
use Rattle.model.specs.declared.quantity.Processor.{Processor}
use Rattle.script.specs.Bytes.{bytes}
use Rattle.script.specs.LineForms.{Form, From, said}
use Rattle.model.specs.declared.answer.Refusal.{Refusal}

-- A number as a processor index; as a page number.
abbrev pub processor : ℕ → Processor
processor v = record { 0 = v }

abbrev pub page : ℕ → Page
page p = record { 0 = p }

-- The form of an event that a level makes, from the form of what it does: v and mode stand before the other numbers.
abbrev pub after : {A B : Type 0} (n : ℕ) → (A → B) → From n A → From n B
after zero f value = f value
after (suc n) f value = λ x. after n f (value x)

abbrev pub by_level : Form Action → Form Event
by_level form = record {
  word = form.word;
  count = suc (suc form.count);
  value = λ v mode. after form.count (Made (processor v) mode) form.value;
}

-- enpart v mode t mbec
abbrev pub enpart : Form Action
enpart = record { word = bytes "enpart"; count = 2; value = λ t mbec. Enpart (level t) mbec }

-- envp v mode w t rip rsp cr0
abbrev pub envp : Form Action
envp = record { word = bytes "envp"; count = 5; value = λ w t rip rsp cr0. Envp (processor w) (level t) rip rsp cr0 }

-- call v mode len
abbrev pub call : Form Action
call = record { word = bytes "call"; count = 1; value = λ len. Call len }

-- ret v mode len
abbrev pub ret : Form Action
ret = record { word = bytes "ret"; count = 1; value = λ len. Ret len }

-- read v mode p
abbrev pub read : Form Action
read = record { word = bytes "read"; count = 1; value = λ p. Read (page p) }

-- write v mode p x
abbrev pub write : Form Action
write = record { word = bytes "write"; count = 2; value = λ p x. Write (page p) x }

-- fetch v mode p
abbrev pub fetch : Form Action
fetch = record { word = bytes "fetch"; count = 1; value = λ p. Fetch (page p) }

-- protect v mode p mask
abbrev pub protect : Form Action
protect = record { word = bytes "protect"; count = 2; value = λ p mask. Protect (page p) mask }

-- config v mode g word
abbrev pub config : Form Action
config = record { word = bytes "config"; count = 2; value = λ g word. Config (level g) word }

-- secure v mode l word
abbrev pub secure : Form Action
secure = record { word = bytes "secure"; count = 2; value = λ l word. Secure (level l) word }

-- flush v mode
abbrev pub flush : Form Action
flush = record { word = bytes "flush"; count = 0; value = Flush }

-- rreg v mode g r
abbrev pub rreg : Form Action
rreg = record { word = bytes "rreg"; count = 2; value = λ g r. Rreg (level g) r }

-- wreg v mode g r x
abbrev pub wreg : Form Action
wreg = record { word = bytes "wreg"; count = 3; value = λ g r x. Wreg (level g) r x }

-- tpr v mode class
abbrev pub tpr : Form Action
tpr = record { word = bytes "tpr"; count = 1; value = λ class. Tpr class }

-- ack v mode
abbrev pub ack : Form Action
ack = record { word = bytes "ack"; count = 0; value = Ack }

-- pstat, vstat, caps v mode
abbrev pub pstat : Form Action
pstat = record { word = bytes "pstat"; count = 0; value = Pstat }

abbrev pub vstat : Form Action
vstat = record { word = bytes "vstat"; count = 0; value = Vstat }

abbrev pub caps : Form Action
caps = record { word = bytes "caps"; count = 0; value = Caps }

-- cri v mode word; crm v mode n mask, n 0 for CR0 and 4 for CR4 (02, request 6)
abbrev pub cri : Form Action
cri = record { word = bytes "cri"; count = 1; value = λ word. Cri word }

abbrev pub crm : Form Action
crm = record { word = bytes "crm"; count = 2; value = λ n mask. Crm n mask }

-- What a level does.
abbrev pub actions : List (Form Action)
actions = enpart ∷ envp ∷ call ∷ ret ∷ read ∷ write ∷ fetch ∷ protect ∷ config ∷ secure ∷ flush ∷ rreg ∷ wreg ∷ tpr ∷ ack ∷ pstat ∷ vstat ∷ caps ∷ cri ∷ crm ∷ []

-- int w g vector, from outside
abbrev pub int : Form Event
int = record { word = bytes "int"; count = 3; value = λ w g vector. Int (processor w) (level g) vector }

abbrev pub events : List (Form Event)
events = int ∷ map by_level actions

-- What a later line says: an event, or it is malformed, with the refusal. The word of a later vsm line is unknown.
unfoldable pub line_event : List ℕ → Result Event Refusal
line_event line = said Ok Err events line
