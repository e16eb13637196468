-- The first line of a script (01, "Script and listing", with 02, request 1). `admissible`, of the model, refuses numbers out of range.
-- Assumes nothing.
use Rattle.std.specs.Prelude.{Bool, true, false, List, [], ◌∷◌, ℕ, eqb, length, Err, Ok, Result}
pub use Rattle.model.specs.declared.machine.FirstLine.{FirstLine}
use Rattle.model.specs.State.{level}
use Rattle.script.specs.Bytes.{bytes}
use Rattle.script.specs.LineForms.{Form, fields, said}
use Rattle.model.specs.declared.answer.Refusal.{Refusal}

-- The first line is vsm, V, M, P, Dr6Shared, host mask, and whether SMEP is available.
abbrev pub first_line : ℕ → ℕ → ℕ → ℕ → ℕ → ℕ → FirstLine
first_line v m p dr6 host smep = record {
  processors = v;
  max_level = level m;
  pages = p;
  dr6_shared = dr6;
  host_mask = host;
  smep = smep;
}

abbrev pub vsm : Form FirstLine
vsm = record { word = bytes "vsm"; count = 6; value = first_line }

-- The seventh field may be absent: SMEP is not available then.
abbrev pub vsm_short : Form FirstLine
vsm_short = record { word = bytes "vsm"; count = 5; value = λ v m p dr6 host. first_line v m p dr6 host 0 }

-- The form of a first line, with a seventh field or not.
abbrev pub first_form : Bool → Form FirstLine
first_form true = vsm
first_form false = vsm_short

unfoldable pub line_first : List ℕ → Result FirstLine Refusal
line_first line = said Ok Err (first_form (eqb (length (fields line)) 7) ∷ []) line
