-- Protection masks and the configuration word (01, "The bench model" and the event config). Assumes nothing.
use Rattle.std.specs.Prelude.{Bool, not, ◌&&◌, ◌||◌, ℕ, leb, eqb, List}
use Rattle.word.specs.Field.{bit}
use Rattle.word.specs.Layout.{reserved_clear}
use Rattle.word.specs.RegisterLayouts.{partition_config, secure_config, unpack_as}
use Rattle.model.specs.State.{State, Shape, shape, partition, config_in}

-- A mask has Read 1, Write 2, KMX 4, UMX 8.
abbrev pub read_bit : ℕ
read_bit = 0

abbrev pub write_bit : ℕ
write_bit = 1

abbrev pub kmx_bit : ℕ
kmx_bit = 2

abbrev pub umx_bit : ℕ
umx_bit = 3

-- A valid mask is 0 or has Read.
abbrev pub valid_mask : ℕ → Bool
valid_mask k = leb k 15 && (eqb k 0 || bit k read_bit)

-- KMX and no UMX.
abbrev pub kernel_only : ℕ → Bool
kernel_only k = bit k kmx_bit && not (bit k umx_bit)

-- Of a configuration word: its default mask, whether it turns protections on, whether a reserved bit is set.
abbrev pub default_mask : ℕ → ℕ
default_mask w = (unpack_as partition_config w).default_vtl_protection_mask

abbrev pub turns_on : ℕ → Bool
turns_on w = eqb (unpack_as partition_config w).enable_vtl_protection 1

abbrev pub reserved_set : ℕ → Bool
reserved_set w = not (reserved_clear partition_config.layout w)

-- The same of a secure configuration word.
abbrev pub secure_reserved_set : ℕ → Bool
secure_reserved_set w = not (reserved_clear secure_config.layout w)

-- Level l's protections are on: bit 0 of its word.
unfoldable pub protects_in : Shape → List ℕ → ℕ → Bool
protects_in z configs l = turns_on (config_in z configs l)

unfoldable pub protects : State → ℕ → Bool
protects s l = protects_in (shape s) (partition s).configs l
