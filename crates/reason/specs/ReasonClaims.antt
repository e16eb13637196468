-- What is proved of the reasons, for every state, line and script. Assumes nothing.
use Rattle.std.specs.Prelude.{Bool, true, false, List, [], ◌∷◌, ◌++◌, ◌↔◌, ◌≡◌, ℕ, ◌≤◌, length, Err, Ok, Result, Some}
use Rattle.listing.specs.Listing.{Answered, answered, listing, record_of}
use Rattle.model.specs.Answers.{number_of}
use Rattle.model.specs.Claims.{conditions}
use Rattle.model.specs.State.{State}
use Rattle.model.specs.Step.{step}
use Rattle.model.specs.declared.answer.Answer.{Answer}
use Rattle.model.specs.declared.answer.Refusal.{Refusal}
use Rattle.model.specs.declared.event.Action.{Action}
use Rattle.model.specs.declared.event.Action.TheVariants.{Enpart, Envp, Call, Ret, Read, Write, Fetch, Protect, Config, Secure, Flush, Rreg, Wreg, Tpr, Ack, Pstat, Vstat, Caps, Cri, Crm}
use Rattle.model.specs.declared.event.Event.{Event}
use Rattle.model.specs.declared.event.Event.TheVariants.{Made, Int}
use Rattle.reason.specs.ReasonNames.{named_among, reason_name, refusals}
use Rattle.reason.specs.ReasonedListing.{cut_to_four, reasoned}
use Rattle.reason.specs.Reasons.{Reason, line_with, longest_reasoned, reason_fields, reason_of, reasoned_text}
use Rattle.reason.specs.declared.Reason.TheVariants as reason
use Rattle.records.specs.RecordTexts.{ended}

-- A name says its refusal, and so no two refusals share one.
abbrev pub NameSays : Type 0
NameSays = (r : Refusal) → named_among refusals (reason_name r) ≡ Some r

abbrev pub OneName : Type 0
OneName = (a b : Refusal) → reason_name a ≡ reason_name b → a ≡ b

-- None of some conditions holds.
abbrev pub NoneHolds : List (Answer × Bool) → Type 0
NoneHolds [] = Unit {0}
NoneHolds (c ∷ cs) = (c.1 ≡ false) × NoneHolds cs

-- An answer is that of the first condition, of some, that holds.
pub record FirstHolding (all : List (Answer × Bool)) (a : Answer) : Type 0 where
  pub before : List (Answer × Bool)
  pub after : List (Answer × Bool)
  pub split : all ≡ before ++ (a, true) ∷ after
  pub none_before : NoneHolds before

-- The answer of an event that is not done is that of the first condition of the event's rule that holds: so the name says this condition.
abbrev pub FirstCondition : Type 0
FirstCondition = (s : State) (e : Event) → (number_of (step s e).answer ≡ 0 → ⊥) → FirstHolding (conditions s e) (step s e).answer

-- A line that reads or writes a register.
abbrev pub of_register : Action → Bool
of_register (Enpart t mbec) = false
of_register (Envp w t ip sp cr) = false
of_register (Call len) = false
of_register (Ret len) = false
of_register (Read p) = false
of_register (Write p x) = false
of_register (Fetch p) = false
of_register (Protect p k) = false
of_register (Config g w) = false
of_register (Secure l w) = false
of_register Flush = false
of_register (Rreg g r) = true
of_register (Wreg g r x) = true
of_register (Tpr class) = false
of_register Ack = false
of_register Pstat = false
of_register Vstat = false
of_register Caps = false
of_register (Cri word) = false
of_register (Crm n mask) = false

abbrev pub register_line : Result Event Refusal → Bool
register_line (Err r) = false
register_line (Ok (Made v mode a)) = of_register a
register_line (Ok (Int w g n)) = false

-- Only such a line is told that the register is watched (02, request 6).
abbrev pub OnlyRegisters : Type 0
OnlyRegisters = (s : State) (said : Result Event Refusal) → reason_of s said ≡ reason.RegisterWatched → register_line said ≡ true

-- A line has no reason exactly at 0.
abbrev pub NoneAtDone : Type 0
NoneAtDone = (s : State) (said : Result Event Refusal) → (reason_fields s said ≡ []) ↔ (number_of (answered s said).answer ≡ 0)

-- Without a reason the line is the listing's.
abbrev pub BareLine : Type 0
BareLine = (number : ℕ) (a : Answered) → ended (line_with number a reason.Nothing ∷ []) ≡ record_of number a

-- The first four fields are the listing, byte for byte.
abbrev pub ListingKept : Type 0
ListingKept = (script : List ℕ) → cut_to_four (reasoned script) ≡ listing script

-- A buffer that always has room for a line.
abbrev pub ShortReasoned : Type 0
ShortReasoned = (number answer value level : ℕ) (why : Reason) → length (reasoned_text number answer value level why) ≤ longest_reasoned
