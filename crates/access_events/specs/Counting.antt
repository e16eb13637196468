-- The levels whose MBEC counts for an access (02, request 1), as a set. Assumes nothing.
use Rattle.std.specs.Prelude.{Bool, false, cond, ℕ}
use Rattle.word.specs.Field.{bit}
use Rattle.model.specs.declared.machine.Shape.{Shape}
use Rattle.model.specs.declared.machine.VirtualProcessor.{VirtualProcessor}
use Rattle.model.specs.declared.quantity.Access.{Access}
use Rattle.model.specs.declared.quantity.Access.TheVariants.{Read, Write, Fetch}
use Rattle.model.specs.declared.quantity.Mode.{Mode}
use Rattle.model.specs.Bounded.{bits}
use Rattle.model.specs.Memory.{is_user, smep_allows}
use Rattle.model.specs.State.{secure_of, mbec_bit}
use Rattle.partition.specs.declared.access.Attempt.{Attempt}

-- Only a fetch in user mode needs another bit where MBEC counts.
abbrev pub is_user_fetch : Mode → Access → Bool
is_user_fetch mode Read = false
is_user_fetch mode Write = false
is_user_fetch mode Fetch = is_user mode

-- The levels whose MBEC counts for the acting level l: those that have it on for l, where SMEP is unavailable or on at l; else none.
unfoldable pub counted_set : Shape → VirtualProcessor → ℕ → ℕ
counted_set z p l = cond (smep_allows z p l) (bits 4 (λ t. bit (secure_of z p t l) mbec_bit)) 0

-- The same for an attempt, where it is of that kind; of another: none.
unfoldable pub counting_set : Shape → VirtualProcessor → Attempt → ℕ
counting_set z p a = cond (is_user_fetch a.mode a.access) (counted_set z p a.actor.0) 0
