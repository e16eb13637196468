-- `quantity::is_user` meets its contract: any mode but user mode is kernel mode. Assumes nothing.
use Rattle.std.proofs.Common.{◌≡◌, false, refl}
use Rattle.model.specs.Memory.{is_user}
use Rattle.model.specs.State.{Mode}
use Rattle.model.proofs.quantity.is_user.Goals as goal

not-user : (mode : Mode) → (mode ≡ Mode.User → ⊥) → false ≡ is_user mode
unfolding is_user
not-user Mode.Kernel h = refl
not-user Mode.User h = absurd (h refl)

pub returns-in-User : goal.returns-in-User
unfolding is_user
returns-in-User c = rw c.in-User.is

pub returns-in_default : goal.returns-in_default
returns-in_default c = not-user _ c.in_default.not-User
