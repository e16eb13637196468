-- The levels that deny an access, as a set (01, "Memory"). Assumes nothing.
use Rattle.std.specs.Prelude.{Bool, ◌&&◌, not, ℕ}
use Rattle.word.specs.Field.{bit}
use Rattle.model.specs.declared.machine.Partition.{Partition}
use Rattle.model.specs.declared.machine.Shape.{Shape}
use Rattle.model.specs.declared.set.LevelSet.{LevelSet}
use Rattle.model.specs.Bounded.{least, bits}
use Rattle.model.specs.Masks.{valid_mask, kernel_only}
use Rattle.model.specs.Memory.{denies_in}
use Rattle.model.specs.State.{no_level}
use Rattle.model.specs.WellFormed.{◌implies◌}
use Rattle.partition.specs.declared.access.Attempt.{Attempt}

-- Level t denies an attempt; bit t of `mbecs` tells whether the MBEC of t counts for the actor.
abbrev pub denies_attempt : Shape → ℕ → Partition → LevelSet → Attempt → ℕ → Bool
denies_attempt z P x mbecs a t = denies_in z P x a.actor.0 a.mode a.page.0 a.access t (bit mbecs.0 t)

-- The set of the levels that deny it.
unfoldable pub denying_set : Shape → ℕ → Partition → LevelSet → Attempt → ℕ
denying_set z P x mbecs a = bits 4 (denies_attempt z P x mbecs a)

-- The lowest level that is in two sets.
unfoldable pub lowest_in : ℕ → ℕ → ℕ
lowest_in set enabled = least no_level (λ t. bit set t && bit enabled t)

-- A mask that a well-formed level may have: valid, and where `strict` is set, not with KMX and no UMX.
abbrev pub mask_passes : Bool → ℕ → Bool
mask_passes strict k = valid_mask k && (strict implies not (kernel_only k))
