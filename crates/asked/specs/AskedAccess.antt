-- The access that a line asks for (01, "Events"; 02, request 3). Assumes nothing.
use Rattle.std.specs.Prelude.{ℕ, Err, None, Ok, Option, Result, Some}
use Rattle.model.specs.declared.event.Action.{Action}
use Rattle.model.specs.declared.event.Action.TheVariants.{Enpart, Envp, Call, Ret, Read, Write, Fetch, Protect, Config, Secure, Flush, Rreg, Wreg, Tpr, Ack, Pstat, Vstat, Caps, Cri, Crm}
use Rattle.model.specs.declared.event.Event.TheVariants.{Made, Int}
use Rattle.model.specs.declared.quantity.Access.{Access}
use Rattle.model.specs.declared.quantity.Access.TheVariants as access
use Rattle.model.specs.declared.quantity.Page.{Page}
use Rattle.model.specs.declared.quantity.Processor.{Processor}
use Rattle.asked.specs.declared.Asked.{Asked}
use Rattle.model.specs.declared.answer.Refusal.{Refusal}
use Rattle.model.specs.declared.event.Event.{Event}

-- An access to a page, in a mode as the line has it.
abbrev pub asks : Processor → ℕ → Page → Access → Option Asked
asks v mode p access = Some (record { vp = v; mode = mode; page = p; access = access })

-- `read`, `write` and `fetch` are accesses; another line asks for none.
abbrev pub asked_of : Processor → ℕ → Action → Option Asked
asked_of v mode (Enpart t mbec) = None
asked_of v mode (Envp w t ip sp cr) = None
asked_of v mode (Call len) = None
asked_of v mode (Ret len) = None
asked_of v mode (Read p) = asks v mode p access.Read
asked_of v mode (Write p x) = asks v mode p access.Write
asked_of v mode (Fetch p) = asks v mode p access.Fetch
asked_of v mode (Protect p k) = None
asked_of v mode (Config g w) = None
asked_of v mode (Secure l w) = None
asked_of v mode Flush = None
asked_of v mode (Rreg g r) = None
asked_of v mode (Wreg g r x) = None
asked_of v mode (Tpr class) = None
asked_of v mode Ack = None
asked_of v mode Pstat = None
asked_of v mode Vstat = None
asked_of v mode Caps = None
asked_of v mode (Cri word) = None
asked_of v mode (Crm n mask) = None

abbrev pub asked_by : Result Event Refusal → Option Asked
asked_by (Err r) = None
asked_by (Ok (Made v mode a)) = asked_of v mode a
asked_by (Ok (Int w g n)) = None
