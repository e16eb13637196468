-- The registers 0 to 31 (01, "The bench model"). Assumes nothing.
use Rattle.std.specs.Prelude.{Bool, not, cond, ◌&&◌, ◌||◌, ℕ, ◌-◌, ltb, eqb}
use Rattle.model.specs.Arrays.{number_at}
use Rattle.model.specs.State.{Shape, VirtualProcessor, context}

-- The registers that a rule names.
abbrev pub rip : ℕ
rip = 0

abbrev pub rflags : ℕ
rflags = 2

abbrev pub cr0 : ℕ
cr0 = 3

abbrev pub cr4 : ℕ
cr4 = 5

abbrev pub efer : ℕ
efer = 7

abbrev pub star : ℕ
star = 8

abbrev pub lstar : ℕ
lstar = 9

abbrev pub cstar : ℕ
cstar = 10

abbrev pub sfmask : ℕ
sfmask = 11

abbrev pub dr6 : ℕ
dr6 = 12

abbrev pub rax : ℕ
rax = 13

abbrev pub rcx : ℕ
rcx = 14

abbrev pub xcr0 : ℕ
xcr0 = 29

-- CR0 bit 0 is clear in real mode; RFLAGS bit 9 is IF; CR4 bit 20 is SMEP.
abbrev pub protected_bit : ℕ
protected_bit = 0

abbrev pub interrupt_bit : ℕ
interrupt_bit = 9

abbrev pub smep_bit : ℕ
smep_bit = 20

-- 0..11 are private to a level; 12, DR6, is too unless Dr6Shared is 1; 13..31 are shared by all levels of a processor.
unfoldable pub is_private : Shape → ℕ → Bool
is_private z r = ltb r dr6 || eqb r dr6 && not z.dr6_shared

unfoldable pub private_of : Shape → VirtualProcessor → ℕ → ℕ → ℕ
private_of z p l r = number_at 13 (context z p l).registers r

-- The shared registers are kept from DR6 on.
unfoldable pub shared_of : VirtualProcessor → ℕ → ℕ
shared_of p r = number_at 20 p.shared (r - dr6)

-- Register r as level l of a processor has it.
unfoldable pub register_of : Shape → VirtualProcessor → ℕ → ℕ → ℕ
register_of z p l r = cond (is_private z r) (private_of z p l r) (shared_of p r)
