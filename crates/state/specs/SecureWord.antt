-- A well-formed secure configuration word (01, "Well formed"): the clause of `well_formed_context` that is tested word by word.
-- Assumes nothing.
use Rattle.std.specs.Prelude.{Bool, not, ◌&&◌, ℕ}
use Rattle.word.specs.Field.{bit}
use Rattle.model.specs.Masks.{secure_reserved_set}
use Rattle.model.specs.State.{mbec_bit}
use Rattle.model.specs.WellFormed.{◌implies◌}

-- No reserved bit is set, and MBEC only where the partition has it for the setting level, as `mbec` tells.
abbrev pub well_configured : Bool → ℕ → Bool
well_configured mbec word = not (secure_reserved_set word) && (bit word mbec_bit implies mbec)
