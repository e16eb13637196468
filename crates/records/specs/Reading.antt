-- What the lines of a text say as records of a state (02, request 2): a state and the lines that follow its records, or nothing where a
-- record is missing, doubled, out of order or misspelt, or the state is not well formed. Assumes nothing.
use Rattle.std.specs.Prelude.{Bool, true, false, cond, List, [], ◌∷◌, ℕ, eqb, leb, Err, None, Ok, Option, Result, Some}
use Rattle.decimal.specs.Read.{read_decimal}
use Rattle.model.specs.declared.machine.Setup.{Setup}
use Rattle.model.specs.Fresh.{admissible}
use Rattle.model.specs.State.{State}
use Rattle.model.specs.WellFormed.{◌implies◌, well_formed}
use Rattle.script.specs.First.{vsm}
use Rattle.script.specs.LineForms.{said}
use Rattle.state.specs.Lent.{setup_of}
use Rattle.records.specs.Places.{Place, PartitionEnabled, Mbec, Config, Active, Shared, Register, Tpr, Pending, Enabled, Secure, Reason, From, Rax, Rcx, Word, Mask, Intercepts, Cr0Mask, Cr4Mask, places, has, rank}
use Rattle.records.specs.RecordTexts.{front}
use Rattle.records.specs.Values.{state_from}
use Rattle.model.specs.declared.answer.Refusal.{Refusal}
use Rattle.model.specs.declared.machine.FirstLine.{FirstLine}

-- A quantity that is yes or no is 0 or 1. (That `secure` is at most 3, and that the bits 25..63 of `cri` are 0, are clauses of well-formed states.)
unfoldable pub is_flag : Place → Bool
is_flag (PartitionEnabled t) = true
is_flag (Mbec t) = true
is_flag (Config t) = false
is_flag (Active v) = false
is_flag (Shared v r) = false
is_flag (Register v l r) = false
is_flag (Tpr v l) = false
is_flag (Pending v l i) = false
is_flag (Enabled v l) = true
is_flag (Secure v l k) = false
is_flag (Reason v l) = false
is_flag (From v l) = false
is_flag (Rax v l) = false
is_flag (Rcx v l) = false
is_flag (Word p) = false
is_flag (Mask p t) = false
is_flag (Intercepts v l) = false
is_flag (Cr0Mask v l) = false
is_flag (Cr4Mask v l) = false

-- The number that follows after some bytes, which must be these.
unfoldable pub number_after : List ℕ → List ℕ → Option ℕ
number_after [] line = read_decimal line
number_after (a ∷ bytes) [] = None
number_after (a ∷ bytes) (b ∷ line) = cond (eqb a b) (number_after bytes line) None

-- The quantity that a line says of a place: a number that a state may have there.
abbrev pub taken : Bool → Option ℕ → Option ℕ
taken flag None = None
taken flag (Some x) = cond (flag implies leb x 1) (Some x) None

unfoldable pub line_value : Place → List ℕ → Option ℕ
line_value p line = taken (is_flag p) (number_after (front p) line)

-- The quantities that the lines say of some places, one a line, and the lines that follow.
pub record Taken : Type 0 where
  pub values : List ℕ
  pub rest : List (List ℕ)

abbrev pub followed : Option ℕ → Option Taken → Option Taken
followed None more = None
followed (Some x) None = None
followed (Some x) (Some more) = Some (record { values = x ∷ more.values; rest = more.rest })

unfoldable pub taking : List Place → List (List ℕ) → Option Taken
taking [] lines = Some (record { values = []; rest = lines })
taking (p ∷ ps) [] = None
taking (p ∷ ps) (line ∷ lines) = followed (line_value p line) (taking ps lines)

-- The quantity at a place, among those of some places, and 0 at a place that a machine has not.
unfoldable pub among : List Place → List ℕ → Place → ℕ
among [] xs q = 0
among (p ∷ ps) [] q = 0
among (p ∷ ps) (x ∷ xs) q = cond (eqb (rank q) (rank p)) x (among ps xs q)

unfoldable pub only : Setup → (Place → ℕ) → Place → ℕ
only setup g p = cond (has setup p) (g p) 0

-- The state of the quantities at its places, in the order of the sequence.
unfoldable pub state_of_values : Setup → List ℕ → State
state_of_values setup xs = state_from setup (only setup (among (places setup) xs))

-- The state that the records say, which must be well formed, and the lines that follow them.
pub record Passed : Type 0 where
  pub state : State
  pub rest : List (List ℕ)

abbrev pub formed_only : State → List (List ℕ) → Option Passed
formed_only s rest = cond (well_formed s) (Some (record { state = s; rest = rest })) None

abbrev pub from_taken : Setup → Option Taken → Option Passed
from_taken setup None = None
from_taken setup (Some t) = formed_only (state_of_values setup t.values) t.rest

abbrev pub from_first : Result FirstLine Refusal → List (List ℕ) → Option Passed
from_first (Err r) lines = None
from_first (Ok f) lines = cond (admissible f) (from_taken (setup_of f) (taking (places (setup_of f)) lines)) None

-- The first record is a first line with seven fields.
unfoldable pub first_record : List ℕ → Result FirstLine Refusal
first_record line = said Ok Err (vsm ∷ []) line

unfoldable pub passed_on : List (List ℕ) → Option Passed
passed_on [] = None
passed_on (line ∷ lines) = from_first (first_record line) lines
