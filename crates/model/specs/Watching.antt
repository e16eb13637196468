-- Which accesses to its own registers a level's higher levels are told of (02, request 6; 001, HV_REGISTER_CR_INTERCEPT_CONTROL). Assumes nothing.
use Rattle.std.specs.Prelude.{Bool, true, false, not, cond, ◌&&◌, ◌||◌, List, [], ◌∷◌, ℕ, ltb, eqb}
use Rattle.std.specs.Bool.{xor, beq}
use Rattle.word.specs.Field.{bit}
use Rattle.word.specs.Layout.{reserved_clear}
use Rattle.word.specs.RegisterLayouts.{intercept_control}
pub use Rattle.model.specs.declared.watched.WatchedAccess.{WatchedAccess}
use Rattle.model.specs.Bounded.{any, least}
use Rattle.model.specs.Registers.{cr0, cr4, efer, star, lstar, cstar, sfmask, xcr0}
use Rattle.model.specs.State.{Shape, VirtualProcessor, Watch, no_level, context, active_of, enabled_at}

-- Its number among the registers of document 001.
abbrev pub intercept_control_number : ℕ
intercept_control_number = 6

-- A bit of the word that asks for reads, or for writes, of a register.
abbrev pub reads : ℕ → ℕ → WatchedAccess
reads b r = record { position = record { 0 = b; 1 = 1 }; register = r; write = false }

abbrev pub writes : ℕ → ℕ → WatchedAccess
writes b r = record { position = record { 0 = b; 1 = 1 }; register = r; write = true }

-- Bits whose register we do not model are stored only.
abbrev pub not_modelled : ℕ
not_modelled = 32

-- The table ties each named bit, in the order of 001, to a register of ours and to read or write.
abbrev pub watch_table : List WatchedAccess
watch_table =
    writes 0 cr0 ∷
    writes 1 cr4 ∷
    writes 2 xcr0 ∷
    reads 3 not_modelled ∷
    writes 4 not_modelled ∷
    reads 5 lstar ∷
    writes 6 lstar ∷
    reads 7 star ∷
    writes 8 star ∷
    reads 9 cstar ∷
    writes 10 cstar ∷
    reads 11 not_modelled ∷
    writes 12 not_modelled ∷
    reads 13 efer ∷
    writes 14 efer ∷
    writes 15 not_modelled ∷
    writes 16 not_modelled ∷
    writes 17 not_modelled ∷
    writes 18 not_modelled ∷
    writes 19 not_modelled ∷
    writes 20 not_modelled ∷
    writes 21 not_modelled ∷
    writes 22 sfmask ∷
    writes 23 not_modelled ∷
    writes 24 not_modelled ∷
    []

-- Of an intercept control word: whether one of the bits 25..63 is set.
abbrev pub intercept_reserved_set : ℕ → Bool
intercept_reserved_set word = not (reserved_clear intercept_control.layout word)

-- Some row of a table whose bit is set in the word is for this access to register r: a write, or a read.
unfoldable pub asked_in : List WatchedAccess → ℕ → ℕ → Bool → Bool
asked_in [] word r write = false
asked_in (row ∷ rows) word r write =
    (bit word row.position.0 && eqb row.register r && beq row.write write) || asked_in rows word r write

-- A level asks for a read of register r by its word.
unfoldable pub asks_read : ℕ → Watch → Bool
asks_read r w = asked_in watch_table w.intercepts r false

-- A level's mask for writes of a register: CR0 and CR4 have one.
unfoldable pub mask_for : Watch → ℕ → ℕ
mask_for w r = cond (eqb r cr0) w.cr0_mask (cond (eqb r cr4) w.cr4_mask 0)

-- A write changes a masked bit of a register.
unfoldable pub changes_masked : ℕ → ℕ → ℕ → Bool
changes_masked mask old new = any 64 (λ i. bit mask i && xor (bit old i) (bit new i))

-- With a non-zero mask a level asks for a CR0 or CR4 write only if it changes a masked bit; mask 0 means every write.
unfoldable pub asks_write : ℕ → ℕ → ℕ → Watch → Bool
asks_write r old new w = asked_in watch_table w.intercepts r true && (eqb (mask_for w r) 0 || changes_masked (mask_for w r) old new)

-- When an actor reads or writes its own level's register (g is the actor), the lowest higher level enabled there that asks receives an
-- intercept. 4 where there is none.
unfoldable pub watcher : Shape → VirtualProcessor → ℕ → (Watch → Bool) → ℕ
watcher z p g asks = least no_level (λ t. eqb g (active_of p) && ltb g t && enabled_at z p t && asks (context z p t).watch)
