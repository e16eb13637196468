-- Why an access is allowed or denied (02, request 3). Who denies, which bit is wanted and who receives the intercept is asked by the
-- definitions that the access itself is decided by (01, "Memory"). Assumes nothing.
use Rattle.std.specs.Prelude.{Bool, true, false, cond, ◌&&◌, ℕ, ◌^◌, Option, None, Some}
use Rattle.model.specs.declared.quantity.Access.{Access}
use Rattle.model.specs.declared.quantity.Mode.{Mode}
use Rattle.model.specs.Memory.{needed, mbec_counts, denies, denied, receiver, host_denies}
use Rattle.model.specs.State.{State, level_found, active, mask_of}
use Rattle.explanation.specs.declared.Denial.{Denial}
use Rattle.explanation.specs.declared.Explanation.{Explanation}
use Rattle.model.specs.declared.quantity.Level.{Level}

-- MBEC is told of a fetch, user or kernel, and of no other access.
abbrev pub is_fetch : Access → Bool
is_fetch Access.Read = false
is_fetch Access.Write = false
is_fetch Access.Fetch = true

-- A denial by a level.
abbrev pub denied_by : ℕ → ℕ → Bool → Option Denial
denied_by mask wanted mbec = Some (record { mask = mask; wanted = wanted; mbec = mbec })

-- For each denying level its mask, the wanted bit as a number, and `mbec` for a fetch where MBEC counted. `mbec` tells whether it
-- counts for the level.
unfoldable pub denial_by : Bool → ℕ → Bool → Mode → Access → Option Denial
denial_by denies mask mbec mode access =
    cond denies (denied_by mask (2 ^ needed mbec mode access) (is_fetch access && mbec)) None

-- How level t stands to an access on processor v.
unfoldable pub denial_of : State → ℕ → Mode → ℕ → Access → ℕ → Option Denial
denial_of s v mode p access t =
    denial_by (denies s v mode p access t) (mask_of s t p) (mbec_counts s v t (active s v)) mode access

-- `allowed`; or `host` where the host alone denies.
abbrev pub host_only : Bool → Explanation
host_only denies = cond denies Explanation.Host Explanation.Allowed

-- Or the receiving level or `none`, and the denying levels of 1 to 3, rising.
unfoldable pub explanation_of : State → ℕ → Mode → ℕ → Access → Explanation
explanation_of s v mode p access =
    let denial = denial_of s v mode p access in
    cond (denied s v mode p access)
    (Explanation.Levels (level_found (receiver s v mode p access)) (denial 1) (denial 2) (denial 3))
    (host_only (host_denies s p access))
