-- What happens on one processor: entry of a level, call, return and interrupts (01, "Events"). Assumes nothing.
use Rattle.std.specs.Prelude.{Bool, true, not, cond, ◌&&◌, List, ◌∷◌, ℕ, ◌+◌, ◌*◌, ◌/◌, ◌%◌, ◌^◌, ltb, eqb, replicate}
use Rattle.word.specs.Field.{bit}
use Rattle.model.specs.Arrays.{number_at}
use Rattle.model.specs.Bounded.{least, highest}
use Rattle.model.specs.Registers.{rip, rax, rcx, private_of, shared_of}
use Rattle.model.specs.State.{Context, Control, Shape, VirtualProcessor, no_level, context, active_of, enabled_at, is_pending, no_control}
use Rattle.model.specs.Updates.{with_control, with_active, with_enabled, with_level, put_context, set_shared, set_private, set_pending, unlocked}

-- Reasons: 1 call, 2 interrupt or intercept.
abbrev pub by_call : ℕ
by_call = 1

abbrev pub by_interrupt : ℕ
by_interrupt = 2

-- Entry of a level records reason, the level left, and RAX and RCX as they then stand, and changes no other register.
abbrev pub record_of : VirtualProcessor → ℕ → Control
record_of p reason = record { reason = reason; from = p.active; rax = shared_of p rax; rcx = shared_of p rcx }

unfoldable pub enter : Shape → VirtualProcessor → ℕ → ℕ → VirtualProcessor
enter z p l reason = with_active (put_context z p l (with_control (context z p l) (record_of p reason))) l

-- Ready: vector/16 (rounded down) exceeds the level's TPR class; RFLAGS.IF plays no part.
unfoldable pub is_ready : Context → ℕ → Bool
is_ready c n = ltb c.tpr (n / 16)

-- The highest ready vector that is pending; 0 if none is. (Vector 0 is never ready.)
unfoldable pub highest_ready : Context → ℕ
highest_ready c = highest 256 (λ n. is_pending c n && is_ready c n)

-- The manual's order of four pending words (02, request 4): "the top set bit of the top non-zero word". First that word's number, then the number of
-- that bit in a word of 64, then the vector of that bit. Each is 0 where there is none. `TopVector` of Claims.antt ties it to `highest_ready`.
unfoldable pub top_word : List ℕ → ℕ
top_word words = highest 4 (λ i. not (eqb (number_at 4 words i) 0))

unfoldable pub top_bit : ℕ → ℕ
top_bit word = highest 64 (bit word)

unfoldable pub top_vector : List ℕ → ℕ
top_vector words = 64 * top_word words + top_bit (number_at 4 words (top_word words))

-- The next enabled level up.
unfoldable pub next_up : Shape → VirtualProcessor → ℕ
next_up z p = least no_level (λ l. ltb (active_of p) l && enabled_at z p l)

-- The active level's RIP grows by the length, modulo 2^64.
unfoldable pub advanced : Shape → VirtualProcessor → ℕ → VirtualProcessor
advanced z p length = set_private z p (active_of p) rip ((private_of z p (active_of p) rip + length) % 2 ^ 64)

-- call: the caller's RIP grows; then entry, reason 1, to the next enabled level up.
unfoldable pub called : Shape → VirtualProcessor → ℕ → VirtualProcessor
called z p length = enter z (advanced z p length) (next_up z p) by_call

-- With RCX 0, RAX and RCX are restored from the control record; RCX 1 is the fast return.
unfoldable pub restored : Shape → VirtualProcessor → VirtualProcessor
restored z p =
    let k = (context z p (active_of p)).control in
    cond (eqb (shared_of p rcx) 0) (set_shared (set_shared p rax k.rax) rcx k.rcx) p

-- The highest level above the active one that is enabled with a ready vector; 0 if there is none.
unfoldable pub waiting : Shape → VirtualProcessor → ℕ
waiting z p = highest 4 (λ l. ltb (active_of p) l && enabled_at z p l && not (eqb (highest_ready (context z p l)) 0))

-- Of the higher levels enabled on v with a ready vector, the highest is entered, reason 2.
unfoldable pub reentered : Shape → VirtualProcessor → VirtualProcessor
reentered z p = cond (eqb (waiting z p) 0) p (enter z p (waiting z p) by_interrupt)

-- ret: if the actor's reason is 1, its RIP grows. Its TLB locks are cleared. RAX and RCX are restored. The level it was
-- entered from becomes active. Then a higher level with a ready vector is entered.
unfoldable pub left : Shape → VirtualProcessor → VirtualProcessor
left z p = with_active (restored z p) (context z p (active_of p)).control.from.0

unfoldable pub returned : Shape → VirtualProcessor → ℕ → VirtualProcessor
returned z p length =
    let q = cond (eqb (context z p (active_of p)).control.reason by_call) (advanced z p length) p in
    reentered z (left z (unlocked z q (active_of p)))

-- int: if g is above the active level and the vector is ready, g is entered.
unfoldable pub enters : Shape → VirtualProcessor → ℕ → ℕ → Bool
enters z p g n = ltb (active_of p) g && is_ready (context z p g) n

-- int: the vector is made pending; g is entered, reason 2, or not.
unfoldable pub interrupted : Shape → VirtualProcessor → ℕ → ℕ → VirtualProcessor
interrupted z p g n =
    let q = set_pending z p g n 1 in
    cond (enters z p g n) (enter z q g by_interrupt) q

-- envp: level t is enabled. Sets RIP, RSP and CR0, the other private registers 0, TPR 0, nothing pending, reason 0, entered from 0, its record's
-- RAX and RCX 0. What the level holds of lower levels stays, and what it asks to be told of their registers (02, request 6).
abbrev pub started_context : Context → ℕ → ℕ → ℕ → Context
started_context c ip sp cr = record {
  registers = ip ∷ sp ∷ 0 ∷ cr ∷ replicate 9 0;
  tpr = 0;
  pending = replicate 4 0;
  secure = c.secure;
  control = no_control;
  watch = c.watch;
}

unfoldable pub started : Shape → VirtualProcessor → ℕ → ℕ → ℕ → ℕ → VirtualProcessor
started z p t ip sp cr =
    with_enabled (put_context z p t (started_context (context z p t) ip sp cr)) (with_level z p.enabled t true)

-- ack: takes the highest ready vector of the actor.
unfoldable pub acknowledged : Shape → VirtualProcessor → VirtualProcessor
acknowledged z p = let l = active_of p in set_pending z p l (highest_ready (context z p l)) 0
