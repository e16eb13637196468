-- The access decision (01, "Memory", with 02, request 1). Assumes nothing.
use Rattle.std.specs.Prelude.{Bool, true, false, not, cond, ◌&&◌, ◌||◌, ℕ, ltb}
use Rattle.word.specs.Field.{bit}
use Rattle.model.specs.Bounded.{any, least}
use Rattle.model.specs.Masks.{read_bit, write_bit, kmx_bit, umx_bit, protects_in}
use Rattle.model.specs.Registers.{cr4, smep_bit, private_of}
use Rattle.model.specs.State.{State, Partition, Shape, VirtualProcessor, Access, Mode, no_level, shape, pages, partition, vp, active, enabled_on, mask_in, host_mask_of, secure_of, mbec_bit}

-- Mode 0 is kernel, 1 user.
unfoldable pub is_user : Mode → Bool
is_user Mode.Kernel = false
is_user Mode.User = true

-- The needed bit: Read, Write, or for a fetch KMX, unless MBEC counts, where a user fetch needs UMX instead.
unfoldable pub needed : Bool → Mode → Access → ℕ
needed mbec mode Access.Read = read_bit
needed mbec mode Access.Write = write_bit
needed mbec mode Access.Fetch = cond (mbec && is_user mode) umx_bit kmx_bit

-- MBEC is on for t, l and v.
unfoldable pub mbec_on : State → ℕ → ℕ → ℕ → Bool
mbec_on s v t l = bit (secure_of (shape s) (vp s v) t l) mbec_bit

-- SMEP is unavailable, or level l of a processor has it on: bit 20 of its CR4.
unfoldable pub smep_allows : Shape → VirtualProcessor → ℕ → Bool
smep_allows z p l = not z.smep || bit (private_of z p l cr4) smep_bit

-- MBEC counts for an access by the acting level l if it is on for t, l and v, and SMEP is unavailable or on at l.
unfoldable pub mbec_counts : State → ℕ → ℕ → ℕ → Bool
mbec_counts s v t l = mbec_on s v t l && smep_allows (shape s) (vp s v) l

-- Level t denies an access by l < t if t's protections are on and its mask lacks the needed bit. `mbec` tells whether MBEC counts
-- for t, l and v.
unfoldable pub denies_in : Shape → ℕ → Partition → ℕ → Mode → ℕ → Access → ℕ → Bool → Bool
denies_in z P x l mode p access t mbec =
    ltb l t && protects_in z x.configs t && not (bit (mask_in z P x.masks t p) (needed mbec mode access))

unfoldable pub denies : State → ℕ → Mode → ℕ → Access → ℕ → Bool
denies s v mode p access t =
    let l = active s v in denies_in (shape s) (pages s) (partition s) l mode p access t (mbec_counts s v t l)

-- Some level denies it.
unfoldable pub denied : State → ℕ → Mode → ℕ → Access → Bool
denied s v mode p access = any 4 (λ t. denies s v mode p access t)

-- Of the denying levels above the actor that are enabled on v, the lowest receives the intercept.
unfoldable pub receiver : State → ℕ → Mode → ℕ → Access → ℕ
receiver s v mode p access = least no_level (λ t. denies s v mode p access t && enabled_on s v t)

-- The host needs Read, Write or KMX of its mask.
unfoldable pub host_denies_by : ℕ → Access → Bool
host_denies_by k access = not (bit k (needed false Mode.Kernel access))

unfoldable pub host_denies : State → ℕ → Access → Bool
host_denies s p access = host_denies_by (host_mask_of s p) access
